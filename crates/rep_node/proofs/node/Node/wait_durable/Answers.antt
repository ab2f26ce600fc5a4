use Rattle.std.proofs.Common.{refl, ap}
use Rattle.rep_types.specs.declared.judged.Judged.{Judged}
use Rattle.rep_ordered.specs.declared.view.View.{View}
use Rattle.rep_ordered.specs.Views.{Later}
use Rattle.rep_ordered.specs.GoingLaws.{goes_later, later_same}
use Rattle.rep_node.specs.declared.home.Home.{Home}
use Rattle.rep_node.specs.Seats.{IsSeat}
use Rattle.rep_node.proofs.Moves.{seat_still}
use Rattle.rep_node.proofs.node.Node.wait_durable.Given.{Over}
use Rattle.rep_node.proofs.node.Node.wait_durable.Goals as goal

pub loop-init : goal.loop-init
loop-init g c = (refl, later_same _)

-- it is a seat of the node still, however much it learnt
learnt : (g : Over) (v w : View (Home g.row.D.Denot) Judged) → Later v w → IsSeat g.D.Disk v → IsSeat g.D.Disk w
learnt g v w later = seat_still g.D.Disk v w (goes_later v w later) (ap (λ (z : View (Home g.row.D.Denot) Judged). z.own) later.same)

pub keep_on-kept-requires-clause-seat : goal.keep_on-kept-requires-clause-seat
keep_on-kept-requires-clause-seat g c = learnt g c.loop.seat.view c.front-front.new.seat.view c.front-front.ensures.later (learnt g c.args.seat.now.view c.loop.seat.view c.loop.invariant.1 c.requires.seat)
