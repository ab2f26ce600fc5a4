use Rattle.std.proofs.Common.{◌≡◌, inl, inr, false, Some, length, refl, sym, ap, ◌∙◌, subst, arith}
use Rattle.rep_types.specs.declared.judged.Judged.{Judged}
use Rattle.rep_types.specs.declared.refusal.Refusal.TheVariants.{Exhausted, OutOfMemory, Stopped}
use Rattle.rep_ordered.specs.declared.view.View.{View}
use Rattle.rep_ordered.specs.Seats.{Place}
use Rattle.rep_node.specs.declared.home.Home.{Home}
use Rattle.rep_node.specs.Serving.{HandedIn}
use Rattle.rep_node.proofs.Batching.{handed_later, not_handed}
use Rattle.rep_node.proofs.Closing.{not_halted}
use Rattle.rep_node.proofs.node.Node.hand_in.Given.{Over}
use Rattle.rep_node.proofs.node.Node.hand_in.Goals as goal
use Rattle.rep_node.proofs.node.Node.hand_in.Goals.{After-is_halted}

pub returns-then-is_halted-clause-handed_in : goal.returns-then-is_halted-clause-handed_in
returns-then-is_halted-clause-handed_in g c = not_handed (g.P.Pace.lets c.args.pace.now) c.args.items.now (length c.args.items.now) c.args.seat.now.view c.is_halted.new.seat.view c.refused.result Stopped
    c.is_halted.ensures.later c.is_halted.ensures.idle c.is_one.ensures.passed c.refused.ensures.0 c.refused.ensures.1 (inl (refl, c.is_halted.ensures.halted.0 c.if-is_halted.true))

-- the node was not halted
runs : (g : Over) (c : After-is_halted g) → c.is_halted.result ≡ false → c.is_halted.new.seat.view.halted ≡ 0
runs g c goes = not_halted c.is_halted.result c.is_halted.new.seat.view.halted c.is_halted.ensures.halted c.is_halted.ensures.one_bit goes

pub returns-then-seat-items-clause-handed_in : goal.returns-then-seat-items-clause-handed_in
returns-then-seat-items-clause-handed_in g c =
    let running = runs g (goal.at.returns-then-seat-items-clause-handed_in g c).After-is_halted c.if-is_halted.false in
    let same : c.seat.inside.seat.view ≡ c.is_halted.new.seat.view = ap (λ (z : Place (Home g.row.D.Denot) Judged). z.view) c.seat.view_is in
    let left = c.seat.invariant.left (ap (λ (z : View (Home g.row.D.Denot) Judged). z.halted) same ∙ running) in
    let here = ap (λ (z : View (Home g.row.D.Denot) Judged). z.allowance) same in
    let before = ap (λ (z : View (Home g.row.D.Denot) Judged). z.allowance) c.is_halted.ensures.later.same in
    let few = c.if-seat-items.true in
    not_handed (g.P.Pace.lets c.args.pace.now) c.args.items.now (length c.args.items.now) c.args.seat.now.view c.is_halted.new.seat.view c.refused-then-seat-items.result Exhausted
    c.is_halted.ensures.later c.is_halted.ensures.idle c.is_one.ensures.passed c.refused-then-seat-items.ensures.0 c.refused-then-seat-items.ensures.1 (inr (inl (refl, omega (arith, left, here, before, few))))

pub submit_shared-requires-clause-rests : goal.submit_shared-requires-clause-rests
submit_shared-requires-clause-rests g c κs within = (c.seat.inside.allowance, c.seat.invariant)

pub submit_shared-requires-clause-allowance : goal.submit_shared-requires-clause-allowance
submit_shared-requires-clause-allowance g c κs within = let less = c.seat.invariant.less in let enough = c.if-seat-items.false in omega (arith, less, enough)

pub submit_shared-requires-clause-runs : goal.submit_shared-requires-clause-runs
submit_shared-requires-clause-runs g c κs within = ap (λ (z : Place (Home g.row.D.Denot) Judged). z.view.halted) c.seat.view_is ∙ runs g (goal.at.submit_shared-requires-clause-runs g c).After-is_halted c.if-is_halted.false

pub returns-in-Ok-clause-handed_in : goal.returns-in-Ok-clause-handed_in
returns-in-Ok-clause-handed_in g c = handed_later (g.P.Pace.lets c.args.pace.now) c.args.items.now (length c.args.items.now) c.args.seat.now.view c.is_halted.new.seat.view c.submit_shared.new.seat.view c.in-Ok.batch c.is_halted.ensures.later c.is_halted.ensures.idle
    (subst (λ (z : Place (Home g.row.D.Denot) Judged). HandedIn (g.P.Pace.lets c.args.pace.now) c.args.items.now (length c.args.items.now) z.view c.submit_shared.new.seat.view c.in-Ok.batch) c.seat.view_is c.in-Ok.ensures.handed_in)

pub returns-in-Err-clause-handed_in : goal.returns-in-Err-clause-handed_in
returns-in-Err-clause-handed_in g c = subst (λ (z : Place (Home g.row.D.Denot) Judged). HandedIn (g.P.Pace.lets c.args.pace.now) c.args.items.now (length c.args.items.now) c.args.seat.now.view z.view c.refused-in-Err.result) (sym (c.in-Err.ensures.refused.1 ∙ c.seat.view_is))
    (not_handed (g.P.Pace.lets c.args.pace.now) c.args.items.now (length c.args.items.now) c.args.seat.now.view c.is_halted.new.seat.view c.refused-in-Err.result OutOfMemory c.is_halted.ensures.later c.is_halted.ensures.idle c.is_one.ensures.passed c.refused-in-Err.ensures.0 (c.refused-in-Err.ensures.1 ∙ ap Some c.in-Err.ensures.refused.0) (inr (inr refl)))
