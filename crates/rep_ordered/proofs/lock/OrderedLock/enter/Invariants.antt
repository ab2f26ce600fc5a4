use Rattle.std.proofs.Common.{◌≡◌}
use Rattle.rep_ordered.specs.Views.{HasAll, Later}
use Rattle.rep_ordered.proofs.lock.OrderedLock.enter.Given as goal

abbrev pub invariant-loop : goal.invariant-loop
invariant-loop g l = (l.seat.lock ≡ l.initial.seat.lock) × Later l.initial.seat.view l.seat.view × (HasAll l.initial.seat.view → l.seat.view.halted ≡ l.initial.seat.view.halted)
