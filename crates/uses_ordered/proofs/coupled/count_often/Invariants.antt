use Rattle.std.proofs.Common.{◌≡◌, ◌≤◌}
use Rattle.rep_ordered.specs.Going.{Went}
use Rattle.uses_ordered.proofs.coupled.count_often.Given as goal

abbrev pub invariant-loop-time : goal.invariant-loop-time
invariant-loop-time g l = (l.seat.lock ≡ l.initial.seat.lock) × Went l.initial.seat.view l.seat.view × (l.counts.1 ≤ l.counts.0)
