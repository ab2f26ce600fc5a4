use Rattle.std.proofs.Common.{refl, ◌∙◌}
use Rattle.rep_ordered.specs.GoingLaws.{went_same}
use Rattle.rep_node.specs.Seats.{WentIdle}
use Rattle.rep_node.proofs.Moves.{seat_still}
use Rattle.rep_node.proofs.AtEngine.{idle_on}
use Rattle.rep_node.proofs.node.Node.keep_on.Given.{Over}
use Rattle.rep_node.proofs.node.Node.keep_on.Goals as goal
use Rattle.rep_node.proofs.node.Node.keep_on.Goals.{After-keep_upto, After-check_seat}

-- what the seat has come to
kept : (g : Over) (c : After-keep_upto g) → WentIdle c.args.seat.now.view c.keep_upto.new.seat.view
kept g c = let went = c.loop.invariant in idle_on c.args.seat.now.view c.loop.seat.view c.keep_upto.new.seat.view went.1 went.2 went.3 c.keep_upto.ensures.idle

checked : (g : Over) (c : After-check_seat g) → WentIdle c.args.seat.now.view c.keep_upto.new.seat.view → WentIdle c.args.seat.now.view c.check_seat.new.seat.view
checked g c once = idle_on c.args.seat.now.view c.keep_upto.new.seat.view c.check_seat.new.seat.view once.0 once.1 once.2 c.check_seat.ensures.idle

pub loop-init : goal.loop-init
loop-init g c = (refl, went_same c.args.seat.now.view c.requires.free, refl, refl)

pub keep_upto-requires-clause-seat : goal.keep_upto-requires-clause-seat
keep_upto-requires-clause-seat g c = let went = c.loop.invariant in seat_still g.D.Disk c.args.seat.now.view c.loop.seat.view went.1.goes went.2 c.requires.seat

pub check_seat-requires-clause-seat : goal.check_seat-requires-clause-seat
check_seat-requires-clause-seat g c = let idle = kept g (goal.at.check_seat-requires-clause-seat g c).After-keep_upto in seat_still g.D.Disk c.args.seat.now.view c.keep_upto.new.seat.view idle.0.goes idle.1 c.requires.seat

pub returns-in-Err-check_seat-clause-idle : goal.returns-in-Err-check_seat-clause-idle
returns-in-Err-check_seat-clause-idle g c = let at = goal.at.returns-in-Err-check_seat-clause-idle g c in checked g at.After-check_seat (kept g at.After-keep_upto)

pub loop-preserved-after-check_seat : goal.loop-preserved-after-check_seat
loop-preserved-after-check_seat g c = let at = goal.at.loop-preserved-after-check_seat g c in let idle = checked g at.After-check_seat (kept g at.After-keep_upto) in (c.check_seat.ensures.lock ∙ (c.keep_upto.ensures.lock ∙ c.loop.invariant.0), idle.0, idle.1, idle.2)

pub loop-preserved : goal.loop-preserved
loop-preserved g c = let at = goal.at.loop-preserved g c in let idle = checked g at.After-check_seat (kept g at.After-keep_upto) in (c.check_seat.ensures.lock ∙ (c.keep_upto.ensures.lock ∙ c.loop.invariant.0), idle.0, idle.1, idle.2)
