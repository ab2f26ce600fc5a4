use Rattle.std.proofs.Common.{◌≡◌, ◌+◌, cond, true, List, [], ◌∷◌, ◌++◌, take, sym, ap, subst, ◌∙◌, arith}
use Rattle.std.specs.Result.{is_ok}
use Rattle.std.specs.declared.vec.Vec.{Vec}
use Rattle.std.proofs.Common.{Global}
use Rattle.std.proofs.lemmas.List.{take_all}
use Rattle.std.proofs.lemmas.Result.{err_from_is_err_and}
use Rattle.rep_steps.specs.declared.event.Event.{Event}
use Rattle.rep_steps.specs.declared.answer.Answer.{Answer}
use Rattle.uses_replica.specs.Living.{LivesOn, LivesUntil}
use Rattle.uses_replica.proofs.Going.{going_on, gone, gone_until, gone_untold}
use Rattle.uses_replica.proofs.live.Goals as goal

-- src/lib.rt: one life more
pub loop-events-preserved : goal.loop-events-preserved
loop-events-preserved g c = λ is_honest.
    let told : List (Vec Answer Global) = c.loop-events.told.items in
    let so_far = c.loop-events.invariant is_honest in
    let ok : is_ok c.push.result ≡ true = c.if-is_err.ensures.negation in
    let items : c.push.new.self.items ≡ told ++ c.in_ok-next.answers ∷ [] = c.push.ensures.items ∙ ap (λ b. cond b (told ++ c.in_ok-next.answers ∷ []) told) ok in
    rw items (going_on g.D.Disk c.args.disk c.args.lives.now c.loop-events.events-index told c.loop-events.disk c.in_ok-next.next c.events-item.result c.as_slice.result.now c.in_ok-next.answers c.loop-events-test.true c.events-item.is c.as_slice.ensures.value
    so_far (c.in_ok-next.ensures.lived so_far.is_honest))

-- and all of them
pub returns-clause-lived : goal.returns-clause-lived
returns-clause-lived g c = λ is_honest.
    let lives : List (Vec Event Global) = c.args.lives.now in
    let all : take c.loop-events.events-index lives ≡ lives = take_all c.loop-events.events-index lives (omega (arith, c.loop-events-test.false)) in
    subst (λ (es : List (Vec Event Global)). LivesOn g.D.Disk c.args.disk es c.loop-events.told.items c.loop-events.disk) all
    (gone g.D.Disk c.args.disk c.lives_follow_the_order.ensures (take c.loop-events.events-index lives) c.loop-events.told.items c.loop-events.disk (c.loop-events.invariant is_honest))

-- a life that was refused
pub returns-in_err-next-clause-refused : goal.returns-in_err-next-clause-refused
returns-in_err-next-clause-refused g c = λ is_honest.
    let so_far = c.loop-events.invariant is_honest in
    let came = c.in_err-next.field-0.0 in
    let until : LivesUntil g.D.Disk c.args.disk c.args.lives.now came.1 came.0 =
    gone_until g.D.Disk c.args.disk c.lives_follow_the_order.ensures c.reasons_exclude_meanings.ensures c.args.lives.now c.loop-events.events-index c.loop-events.told.items c.loop-events.disk came.0 came.1 so_far (c.in_err-next.ensures.refused so_far.is_honest) in
    let given = err_from_is_err_and c.from_residual.result c.from_residual.ensures.1 in
    rw given.1 (subst (λ x. LivesUntil g.D.Disk c.args.disk c.args.lives.now x.1 x.0) (sym given.2) until)

-- no room for the answers of a life
pub returns-then-is_err-clause-refused : goal.returns-then-is_err-clause-refused
returns-then-is_err-clause-refused g c = λ is_honest.
    let so_far = c.loop-events.invariant is_honest in
    let i = c.loop-events.events-index in
    let told : List (Vec Answer Global) = c.loop-events.told.items in
    gone_untold g.D.Disk c.args.disk c.lives_follow_the_order.ensures c.reasons_exclude_meanings.ensures c.args.lives.now (i + 1) (told ++ c.in_ok-next.answers ∷ []) c.in_ok-next.next
    (going_on g.D.Disk c.args.disk c.args.lives.now i told c.loop-events.disk c.in_ok-next.next c.events-item.result c.as_slice.result.now c.in_ok-next.answers c.loop-events-test.true c.events-item.is c.as_slice.ensures.value so_far
    (c.in_ok-next.ensures.lived so_far.is_honest))
