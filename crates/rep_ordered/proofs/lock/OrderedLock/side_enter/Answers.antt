use Rattle.std.proofs.Common.{rules, ◌≡◌, refl, subst, ap}
use Rattle.rep_ordered.specs.Views.{Later}
use Rattle.rep_ordered.specs.Steps.{Entered}
use Rattle.rep_ordered.proofs.Places.{later_same, later_still, later_entered}
use Rattle.rep_ordered.proofs.lock.OrderedLock.side_enter.Goals as goal

pub loop-init : goal.loop-init
loop-init g c = (refl, later_same _, λ _. refl)

pub returns-in-Some-try_side_enter-clause-entered : goal.returns-in-Some-try_side_enter-clause-entered
returns-in-Some-try_side_enter-clause-entered g c = let k = g.V.Keeps in let u = c.args.seat.now.view in let v = c.front.new.seat.view in let e = c.in-Some-try_side_enter.ensures.entered in
    let later : Later u v = later_still u c.loop.seat.view v c.loop.invariant.1 c.front.ensures.later in
    let runs : v.halted ≡ 0 = search rules in
    let here = subst (λ first. Entered (k.legal first) (k.at_home first) k.durable_of k.common_of c.args.station e.0 2 v c.try_side_enter.new.seat.view c.in-Some-try_side_enter.value) (ap (λ z. z.first) later.same) e.1 in
    (e.0, later_entered (k.legal u.first) (k.at_home u.first) k.durable_of k.common_of u v c.try_side_enter.new.seat.view c.args.station e.0 2 c.in-Some-try_side_enter.value later runs here)
