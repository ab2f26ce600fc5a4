use Rattle.std.proofs.Common.{rules, arith, ◌≡◌, ap, ◌∙◌, length}
use Rattle.std.proofs.lemmas.List.{take_at}
use Rattle.rep_transfer.proofs.Streams.{too_long, too_short, both_read}
use Rattle.rep_transfer.proofs.reader.fill.Goals as goal

pub returns-then-size-gt-PIECE-clause-none : goal.returns-then-size-gt-PIECE-clause-none
returns-then-size-gt-PIECE-clause-none g c = λ none.
    let size : length c.read_into.new.room ≡ c.HEAD-head.result = search rules in
    let more : c.more_size.result ≡ g.T.Piece.more c.read_into.new.room = c.more_size.ensures.size ∙ ap g.T.Piece.more (take_at c.read_into.new.room _ c.HEAD-head.result size) in
    too_long g.T.Piece.piece g.T.Piece.HEAD g.T.Piece.more g.met.T.Piece.is_paced (g.R.Source.remaining c.args.reader.now) (g.R.Source.remaining c.read_into.new.reader) c.read_into.new.room
    (size ∙ c.HEAD-head.ensures) (omega (arith, more, c.HEAD-head.ensures, c.if-size-gt-PIECE.true)) (c.in_ok-read_into.ensures.full c.if-not-branch.false)

pub returns-then-not-branch-2-clause-none : goal.returns-then-not-branch-2-clause-none
returns-then-not-branch-2-clause-none g c = λ none.
    let size : length c.read_into.new.room ≡ c.HEAD-head.result = search rules in
    let more : c.more_size.result ≡ g.T.Piece.more c.read_into.new.room = c.more_size.ensures.size ∙ ap g.T.Piece.more (take_at c.read_into.new.room _ c.HEAD-head.result size) in
    too_short g.T.Piece.piece g.T.Piece.HEAD g.T.Piece.more g.met.T.Piece.is_paced (g.R.Source.remaining c.args.reader.now) (g.R.Source.remaining c.read_into.new.reader) c.read_into.new.room c.more_size.result
    (size ∙ c.HEAD-head.ensures) more (c.in_ok-read_into.ensures.full c.if-not-branch.false) (search rules)

pub returns-clause-found : goal.returns-clause-found
returns-clause-found g c =
    both_read (g.R.Source.remaining c.args.reader.now) (g.R.Source.remaining c.read_into.new.reader) (g.R.Source.remaining c.read_into-2.new.reader) c.read_into.new.room _ c.read_into-2.new.room _ c.HEAD-head.result c.more_size.result
    (search rules) (search rules) (c.in_ok-read_into.ensures.full c.if-not-branch.false) (c.in_ok-read_into-2.ensures.full c.if-not-branch-2.false)
