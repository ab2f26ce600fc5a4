use Rattle.std.proofs.Common.{ap}
use Rattle.rep_types.specs.declared.judged.Judged.{Judged}
use Rattle.rep_ordered.specs.Seats.{Place}
use Rattle.rep_node.specs.declared.home.Home.{Home}
use Rattle.rep_node.proofs.Sharing.{owns_less, owns_given}
use Rattle.rep_node.proofs.node.Node.split.Goals as goal

pub invariant_of-seat : goal.invariant_of-seat
invariant_of-seat g c = owns_less g.D.Disk c.seat.inside.seat.view c.split-other.new.seat.view c.args.give c.seat.inside.allowance c.saturating_sub-seat-inside.result
    (ap (λ (z : Place (Home g.row.D.Denot) Judged). z.view) c.split-other.ensures.seat) c.saturating_sub-seat-inside.ensures c.seat.invariant

pub invariant_of-result : goal.invariant_of-result
invariant_of-result g c = owns_given g.D.Disk c.seat.inside.seat.view c.split-other.result.view c.args.give c.seat.inside.allowance (ap (λ (z : Place (Home g.row.D.Denot) Judged). z.view) c.split-other.ensures.given) c.seat.invariant
