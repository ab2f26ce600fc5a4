use Rattle.std.proofs.Common.{◌≡◌, None}
use Rattle.rep_types.specs.declared.judged.Judged.{Judged}
use Rattle.rep_ordered.specs.declared.view.View.{View}
use Rattle.rep_ordered.specs.Views.{abandoned, turn_of, without}
use Rattle.rep_node.specs.declared.home.Home.{Home}
use Rattle.rep_node.specs.declared.home.Home.TheVariants.{Desk as AtSecond}
use Rattle.rep_node.specs.Homes.{common_in, durable_in}
use Rattle.rep_node.specs.Keeping.{AtDesk}
use Rattle.rep_node.proofs.AtEngine.{view_is}
use Rattle.rep_node.proofs.Desks.{desk_floor, desk_gone, desk_held, desk_home, desk_learns, desk_names}
use Rattle.rep_node.proofs.node.Node.give_desk_up.Given.{Over}
use Rattle.rep_node.proofs.node.Node.give_desk_up.Goals as goal
use Rattle.rep_node.proofs.node.Node.give_desk_up.Goals.{After-halt}

-- where it is once it has halted the node
halted : (g : Over) (c : After-halt g) (v : View (Home g.row.D.Denot) Judged) → AtDesk g.D.Disk 1 v c.args.seat.now.view c.args.desk → AtDesk g.D.Disk 1 v c.halt.new.seat.view c.args.desk
halted g c v a = desk_learns g.D.Disk 1 v c.args.seat.now.view c.args.desk a c.halt.new.seat.view c.halt.ensures.later c.halt.ensures.sees

pub give_up-requires-clause-holds : goal.give_up-requires-clause-holds
give_up-requires-clause-holds g c = let a = c.requires.at in desk_held g.D.Disk 1 a.0 c.halt.new.seat.view c.args.desk (halted g (goal.at.give_up-requires-clause-holds g c).After-halt a.0 a.1)

pub give_up-requires-clause-value : goal.give_up-requires-clause-value
give_up-requires-clause-value g c = let a = c.requires.at in desk_home g.D.Disk 1 a.0 c.halt.new.seat.view c.args.desk (halted g (goal.at.give_up-requires-clause-value g c).After-halt a.0 a.1)

pub give_up-requires-clause-floor : goal.give_up-requires-clause-floor
give_up-requires-clause-floor g c = λ _. let a = c.requires.at in desk_floor g.D.Disk 1 a.0 c.halt.new.seat.view c.args.desk (halted g (goal.at.give_up-requires-clause-floor g c).After-halt a.0 a.1)

pub give_up-requires-clause-common : goal.give_up-requires-clause-common
give_up-requires-clause-common g c = λ _. let a = c.requires.at in desk_names g.D.Disk 1 a.0 c.halt.new.seat.view c.args.desk (halted g (goal.at.give_up-requires-clause-common g c).After-halt a.0 a.1)

pub returns-clause-idle : goal.returns-clause-idle
returns-clause-idle g c = λ v a.
    let l : View (Home g.row.D.Denot) Judged = c.halt.new.seat.view in
    let t : View (Home g.row.D.Denot) Judged = c.give_up.new.seat.view in
    let y : Home g.row.D.Denot = AtSecond c.args.desk in
    let left : t ≡ abandoned 1 y (without None 1 (turn_of 1 l) (durable_in y) (common_in y) l) = view_is c.give_up.new.seat c.halt.new.seat.lock (abandoned 1 y (without None 1 (turn_of 1 l) (durable_in y) (common_in y) l)) c.give_up.ensures.seat in
    desk_gone g.D.Disk 1 v l c.args.desk (halted g (goal.at.returns-clause-idle g c).After-halt v a) t (turn_of 1 l) (durable_in y) (common_in y) y left
