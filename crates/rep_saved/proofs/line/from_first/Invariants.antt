use Rattle.std.proofs.Common.{◌≡◌, length}
use Rattle.rep_saved.specs.Lines.{from_first}
use Rattle.rep_saved.proofs.line.from_first.Given as goal

abbrev pub invariant-loop-rest : goal.invariant-loop-rest
invariant-loop-rest l = from_first l.text ≡ from_first l.rest

abbrev pub decreases-loop-rest : goal.decreases-loop-rest
decreases-loop-rest l = length l.rest
