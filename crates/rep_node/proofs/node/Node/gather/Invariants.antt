use Rattle.std.proofs.Common.{◌≡◌}
use Rattle.rep_node.specs.Seats.{IsSeat}
use Rattle.rep_node.specs.Keeping.{AtDesk}
use Rattle.rep_node.proofs.node.Node.gather.Given as goal

-- whoever was at the desk is there still, and knows of no other halt
abbrev pub invariant-loop : goal.invariant-loop
invariant-loop g l = (l.seat.lock ≡ l.fn.seat.lock) × (l.seat.view.halted ≡ l.fn.seat.view.halted) × ((v : _) → IsSeat g.D.Disk v → AtDesk g.D.Disk 0 v l.fn.seat.view l.fn.desk → AtDesk g.D.Disk 0 v l.seat.view l.desk)
