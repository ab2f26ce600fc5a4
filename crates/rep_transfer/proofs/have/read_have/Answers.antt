use Rattle.std.proofs.Common.{rules}
use Rattle.rep_transfer.specs.Haves.{have_bytes}
use Rattle.rep_transfer.specs.PieceLaws.{have_size}
use Rattle.rep_transfer.proofs.Streams.{too_many}
use Rattle.rep_transfer.proofs.have.read_have.Goals as goal

pub returns-then-not-branch-2-clause-only : goal.returns-then-not-branch-2-clause-only
returns-then-not-branch-2-clause-only g c = λ have h.
    too_many (g.R.Source.remaining c.args.reader.now) (g.R.Source.remaining c.read_into.new.reader) c.read_into.new.room (have_bytes have) 67 _ (have_size have h) (search rules) (c.in_ok-read_into.ensures.full c.if-not-branch.false)
    (c.in_ok-has_ended.ensures.more (search rules))
