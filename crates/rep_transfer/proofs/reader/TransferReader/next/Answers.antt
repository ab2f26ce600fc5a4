use Rattle.std.proofs.Common.{rules, ◌≡◌, ◌+◌, ◌≤◌, ℕ, take, None}
use Rattle.std.specs.Io.KnownBytes.{Consumes}
use Rattle.rep_transfer.specs.declared.pieces.TheConstants.{PIECE}
use Rattle.rep_transfer.proofs.Streams.{at_some, none_there}
use Rattle.rep_transfer.proofs.reader.TransferReader.next.Goals as goal

pub returns-in_default-of-clause-known : goal.returns-in_default-of-clause-known
returns-in_default-of-clause-known g c =
    let room = c.fill.new.room in
    none_there g.T.Piece.piece g.T.Piece.HEAD g.T.Piece.more g.met.T.Piece.is_paced (g.R.Source.remaining c.args.reader.now) (g.R.Source.remaining c.fill.new.reader) None room c.in-Some.size c.fill.array_long
    (at_some (λ (n : ℕ). (n ≡ g.T.Piece.HEAD + g.T.Piece.more (take g.T.Piece.HEAD room)) × (n ≤ PIECE)) c.in_ok-size.field-0 c.in-Some.size c.in-Some.is c.in_ok-size.ensures.size)
    (at_some (λ (n : ℕ). Consumes (g.R.Source.remaining c.args.reader.now) (g.R.Source.remaining c.fill.new.reader) (take n room)) c.in_ok-size.field-0 c.in-Some.size c.in-Some.is c.in_ok-size.ensures.found)
    c.in_default-of.ensures

pub returns-clause-taken : goal.returns-clause-taken
returns-clause-taken c = search rules
