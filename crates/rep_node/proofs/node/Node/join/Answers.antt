use Rattle.std.proofs.Common.{◌≤◌, subst}
use Rattle.rep_types.specs.declared.judged.Judged.{Judged}
use Rattle.rep_ordered.specs.Seats.{Place}
use Rattle.rep_ordered.specs.Steps.{Learns}
use Rattle.rep_ordered.specs.Views.{both}
use Rattle.rep_node.specs.declared.home.Home.{Home}
use Rattle.rep_node.specs.Homes.{IsLegal}
use Rattle.rep_node.proofs.Sharing.{owns_both}
use Rattle.rep_node.proofs.node.Node.join.Goals as goal

pub invariant_of-seat : goal.invariant_of-seat
invariant_of-seat g c = let within : c.join.new.seat.view.allowance ≤ c.join.new.seat.view.whole = c.join.ensures.joined.within in
    owns_both g.D.Disk c.other.inside.seat.view.seen c.seat.inside.seat.view c.other.inside.seat.view c.join.new.seat.view c.seat.inside.allowance c.other.inside.allowance c.saturating_add-seat-inside.result
    c.join.ensures.joined within c.saturating_add-seat-inside.ensures c.seat.invariant c.other.invariant

pub returns-clause-joined : goal.returns-clause-joined
returns-clause-joined g c =
    subst (λ (z : Place (Home g.row.D.Denot) Judged). Learns (IsLegal z.view.first) c.args.other.view.seen (both z.view c.args.other.view) c.join.new.seat.view) c.seat.view_is
    (subst (λ (z : Place (Home g.row.D.Denot) Judged). Learns (IsLegal c.seat.inside.seat.view.first) z.view.seen (both c.seat.inside.seat.view z.view) c.join.new.seat.view) c.other.view_is c.join.ensures.joined)
