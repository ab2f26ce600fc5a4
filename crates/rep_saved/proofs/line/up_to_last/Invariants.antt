use Rattle.std.proofs.Common.{◌≡◌, length}
use Rattle.rep_saved.specs.Lines.{up_to_last}
use Rattle.rep_saved.proofs.line.up_to_last.Given as goal

abbrev pub invariant-loop-rest : goal.invariant-loop-rest
invariant-loop-rest l = up_to_last l.text ≡ up_to_last l.rest

abbrev pub decreases-loop-rest : goal.decreases-loop-rest
decreases-loop-rest l = length l.rest
