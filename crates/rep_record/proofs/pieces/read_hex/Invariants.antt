use Rattle.std.proofs.Common.{◌≡◌, length, take}
use Rattle.std.specs.Option.{option_map}
use Rattle.rep_record.specs.Reading.{hex_in}
use Rattle.rep_record.proofs.Kept.{hex_from}
use Rattle.rep_record.proofs.pieces.read_hex.Given as goal

abbrev pub invariant-loop-rest : goal.invariant-loop-rest
invariant-loop-rest l = hex_from l.bytes.items l.rest ≡ option_map (take 63) (hex_in l.digits)

abbrev pub decreases-loop-rest : goal.decreases-loop-rest
decreases-loop-rest l = length l.rest
