use Rattle.rep_types.proofs.Digits.{ReadsFirst}
use Rattle.rep_types.proofs.number.read_number.Given as goal

abbrev pub invariant-loop-byte : goal.invariant-loop-byte
invariant-loop-byte l = ReadsFirst l.digits l.byte-index l.number
