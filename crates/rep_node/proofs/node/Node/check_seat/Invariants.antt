use Rattle.std.proofs.Common.{◌≡◌}
use Rattle.rep_node.specs.Seats.{WentIdle}
use Rattle.rep_node.proofs.node.Node.check_seat.Given as goal

abbrev pub invariant-loop : goal.invariant-loop
invariant-loop g l = (l.seat.lock ≡ l.fn.seat.lock) × WentIdle l.fn.seat.view l.seat.view × (l.seat.view.given_up ≡ l.fn.seat.view.given_up)
