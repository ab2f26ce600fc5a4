use Rattle.std.proofs.Common.{◌≡◌}
use Rattle.rep_ordered.specs.Going.{Went}
use Rattle.rep_node.proofs.node.Node.keep_upto.Given as goal

-- the seat went on, drew nothing and let nothing join
abbrev pub invariant-loop : goal.invariant-loop
invariant-loop g l = (l.seat.lock ≡ l.initial.seat.lock) × Went l.initial.seat.view l.seat.view × (l.seat.view.own ≡ l.initial.seat.view.own) × (l.seat.view.joined ≡ l.initial.seat.view.joined) × (l.seat.view.given_up ≡ l.initial.seat.view.given_up)
