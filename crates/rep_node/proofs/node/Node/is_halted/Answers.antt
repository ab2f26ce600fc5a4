use Rattle.rep_node.proofs.Keeps.{invariant_idle}
use Rattle.rep_node.proofs.Peeks.{idle_look}
use Rattle.rep_node.proofs.node.Node.is_halted.Goals as goal

pub invariant_of-seat : goal.invariant_of-seat
invariant_of-seat g c = invariant_idle g.D.Disk c.seat.inside.seat.view c.front.new.seat.view c.seat.inside.allowance c.seat.invariant (idle_look c.seat.inside.seat.view c.front.new.seat.view c.front.ensures.later c.front.ensures.sees c.seat.invariant.free)
