use Rattle.std.proofs.Common.{ap, ◌∙◌, subst}
use Rattle.std.specs.Prelude.{IfOk}
use Rattle.rep_types.specs.declared.judged.Judged.{Judged}
use Rattle.rep_ordered.specs.Seats.{Place}
use Rattle.rep_node.specs.declared.home.Home.{Home}
use Rattle.rep_node.specs.Seats.{WentIdle}
use Rattle.rep_node.specs.Checking.{IsChecked}
use Rattle.rep_node.proofs.Keeps.{invariant_idle}
use Rattle.rep_node.proofs.node.Node.check_run.Goals as goal

pub invariant_of-seat : goal.invariant_of-seat
invariant_of-seat g c = invariant_idle g.D.Disk c.seat.inside.seat.view c.check_seat.new.seat.view c.seat.inside.allowance c.seat.invariant c.check_seat.ensures.idle

pub returns-clause-idle : goal.returns-clause-idle
returns-clause-idle g c = subst (λ (z : Place (Home g.row.D.Denot) Judged). WentIdle z.view c.check_seat.new.seat.view) c.seat.view_is c.check_seat.ensures.idle

pub returns-clause-checked : goal.returns-clause-checked
returns-clause-checked g c = subst (λ (z : Place (Home g.row.D.Denot) Judged). IfOk c.check_seat.result (IsChecked z.view c.check_seat.new.seat.view)) c.seat.view_is c.check_seat.ensures.checked

pub returns-clause-due : goal.returns-clause-due
returns-clause-due g c = λ told s is. c.check_seat.ensures.due told s (ap (λ (z : Place (Home g.row.D.Denot) Judged). z.view.first) c.seat.view_is ∙ is)
