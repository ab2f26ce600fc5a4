use Rattle.std.proofs.Common.{◌≡◌, None}
use Rattle.rep_types.specs.declared.judged.Judged.{Judged}
use Rattle.rep_ordered.specs.declared.view.View.{View}
use Rattle.rep_ordered.specs.Views.{turn_of, without}
use Rattle.rep_node.specs.declared.home.Home.{Home}
use Rattle.rep_node.specs.declared.home.Home.TheVariants.{Desk as AtSecond}
use Rattle.rep_node.specs.Homes.{common_in, durable_in}
use Rattle.rep_node.proofs.AtEngine.{view_is}
use Rattle.rep_node.proofs.Desks.{desk_floor, desk_home, desk_left, desk_names, desk_side}
use Rattle.rep_node.proofs.node.Node.leave_desk.Goals as goal

pub side_leave-requires-clause-side : goal.side_leave-requires-clause-side
side_leave-requires-clause-side g c = let a = c.requires.at in desk_side g.D.Disk 0 a.0 c.args.seat.now.view c.args.desk a.1

pub side_leave-requires-clause-value : goal.side_leave-requires-clause-value
side_leave-requires-clause-value g c = let a = c.requires.at in desk_home g.D.Disk 0 a.0 c.args.seat.now.view c.args.desk a.1

pub side_leave-requires-clause-floor : goal.side_leave-requires-clause-floor
side_leave-requires-clause-floor g c = λ _. let a = c.requires.at in desk_floor g.D.Disk 0 a.0 c.args.seat.now.view c.args.desk a.1

pub side_leave-requires-clause-common : goal.side_leave-requires-clause-common
side_leave-requires-clause-common g c = λ _. let a = c.requires.at in desk_names g.D.Disk 0 a.0 c.args.seat.now.view c.args.desk a.1

pub returns-clause-idle : goal.returns-clause-idle
returns-clause-idle g c = λ v a.
    let u : View (Home g.row.D.Denot) Judged = c.args.seat.now.view in
    let t : View (Home g.row.D.Denot) Judged = c.side_leave.new.seat.view in
    let y : Home g.row.D.Denot = AtSecond c.args.desk in
    let left : t ≡ without None 1 (turn_of 1 u) (durable_in y) (common_in y) u = view_is c.side_leave.new.seat c.args.seat.now.lock (without None 1 (turn_of 1 u) (durable_in y) (common_in y) u) c.side_leave.ensures.seat in
    desk_left g.D.Disk 0 v u c.args.desk a t (turn_of 1 u) (durable_in y) (common_in y) left
