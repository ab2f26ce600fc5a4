use Rattle.std.proofs.Common.{◌≡◌, ◌+◌, length}
use Rattle.rep_ordered.specs.Going.{Went}
use Rattle.uses_ordered.specs.Passing.{AllDone}
use Rattle.uses_ordered.proofs.passing.pass_all.Given as goal

abbrev pub invariant-loop-ticket : goal.invariant-loop-ticket
invariant-loop-ticket g l = (l.seat.lock ≡ l.initial.seat.lock) × Went l.initial.seat.view l.seat.view × (length l.seat.view.own ≡ length l.initial.seat.view.own + l._ticket) × AllDone l.seat.view
