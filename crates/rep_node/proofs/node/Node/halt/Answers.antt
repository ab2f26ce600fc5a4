use Rattle.rep_node.proofs.Sharing.{owns_halted}
use Rattle.rep_node.proofs.node.Node.halt.Goals as goal

pub invariant_of-seat : goal.invariant_of-seat
invariant_of-seat g c = owns_halted g.D.Disk c.seat.inside.seat.view c.halt.new.seat.view c.seat.inside.allowance c.halt.ensures.later c.halt.ensures.sees c.halt.ensures.halted c.seat.invariant
