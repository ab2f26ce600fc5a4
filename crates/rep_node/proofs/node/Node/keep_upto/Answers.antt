use Rattle.std.proofs.Common.{rules, ◌≡◌, Err, refl, ◌∙◌}
use Rattle.rep_types.specs.declared.refusal.Refusal.TheVariants.{LogFull}
use Rattle.rep_ordered.specs.GoingLaws.{went_same}
use Rattle.rep_node.specs.Seats.{WentIdle}
use Rattle.rep_node.proofs.Moves.{seat_still}
use Rattle.rep_node.proofs.AtEngine.{idle_on}
use Rattle.rep_node.proofs.node.Node.keep_upto.Given.{Over}
use Rattle.rep_node.proofs.node.Node.keep_upto.Goals as goal
use Rattle.rep_node.proofs.node.Node.keep_upto.Goals.{After-keep_once}

-- what the seat has come to
kept : (g : Over) (c : After-keep_once g) → WentIdle c.args.seat.now.view c.keep_once.new.seat.view
kept g c = let went = c.loop.invariant in idle_on c.args.seat.now.view c.loop.seat.view c.keep_once.new.seat.view went.1 went.2 went.3 c.keep_once.ensures.idle

pub keep_once-requires-clause-seat : goal.keep_once-requires-clause-seat
keep_once-requires-clause-seat g c = let went = c.loop.invariant in seat_still g.D.Disk c.args.seat.now.view c.loop.seat.view went.1.goes went.2 c.requires.seat

pub returns-in_err-kept-clause-idle : goal.returns-in_err-kept-clause-idle
returns-in_err-kept-clause-idle g c = kept g (goal.at.returns-in_err-kept-clause-idle g c).After-keep_once

pub returns-in_err-kept-clause-full : goal.returns-in_err-kept-clause-full
returns-in_err-kept-clause-full g c = λ told s is. let was : c.keep_once.result ≡ Err LogFull = search rules in c.keep_once.ensures.full was s (c.loop.invariant.1.goes.first ∙ is)

pub returns-then-kept-upto-clause-idle : goal.returns-then-kept-upto-clause-idle
returns-then-kept-upto-clause-idle g c = kept g (goal.at.returns-then-kept-upto-clause-idle g c).After-keep_once

pub loop-preserved-in_default : goal.loop-preserved-in_default
loop-preserved-in_default g c = let idle = kept g (goal.at.loop-preserved-in_default g c).After-keep_once in (c.keep_once.ensures.lock ∙ c.loop.invariant.0, idle.0, idle.1, idle.2, search rules)

pub loop-preserved : goal.loop-preserved
loop-preserved g c = let idle = kept g (goal.at.loop-preserved g c).After-keep_once in (c.keep_once.ensures.lock ∙ c.loop.invariant.0, idle.0, idle.1, idle.2, search rules)

pub loop-init : goal.loop-init
loop-init g c = (refl, went_same c.args.seat.now.view c.requires.free, refl, refl, refl)

pub returns-then-kept-upto-clause-kept : goal.returns-then-kept-upto-clause-kept
returns-then-kept-upto-clause-kept g c = search rules

pub returns-then-kept-upto-clause-full : goal.returns-then-kept-upto-clause-full
returns-then-kept-upto-clause-full g c = search rules
