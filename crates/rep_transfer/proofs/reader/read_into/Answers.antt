use Rattle.std.proofs.Common.{rules, ◌∙◌}
use Rattle.rep_transfer.proofs.Streams.{more_read}
use Rattle.rep_transfer.proofs.reader.read_into.Goals as goal

pub loop-count-preserved : goal.loop-count-preserved
loop-count-preserved g c =
    let read = more_read (g.R.Source.remaining c.args.reader.now) (g.R.Source.remaining c.loop-count.reader) (g.R.Source.remaining c.read.new.self) c.loop-count.room c.read.new.room _ c.loop-count.count c.in_ok-taken.taken c.loop-count.invariant.0 c.in_ok-taken.ensures.within c.loop-count.invariant.2 c.in_ok-taken.ensures.bytes.0 in
    (read.0, c.in_ok-taken.ensures.notes.fine (search rules) ∙ c.loop-count.invariant.1, read.1)
