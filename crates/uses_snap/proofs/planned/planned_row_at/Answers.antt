use Rattle.std.proofs.Common.{◌≤◌, ◌∙◌, ap, sym, subst}
use mathlib.Core.List.{IsPrefix}
use Rattle.rep_snap.specs.Lists.{published, front_of, Ascends}
use Rattle.rep_snap.specs.Views.{Watching}
use Rattle.rep_snap.specs.Doors.{FoundShut}
use Rattle.uses_snap.proofs.Folding.{planned_row}
use Rattle.uses_snap.specs.declared.planned.Plan.{Plan}
use Rattle.uses_snap.proofs.planned.planned_row_at.Goals as goal

pub returns : goal.returns
returns g c =
    let v = c.learn.new.self in
    let w = c.peek.result.0 in
    let told = c.args.told.now.list in
    let plan = c.args.reader.basis.pairs.log in
    let start = sym (ap (λ (t : Watching Plan). t.start) c.learn.ensures.learnt) in
    let basis = ap (λ (t : Watching Plan). t.basis) c.learn.ensures.learnt in
    planned_row c.histories_grow.ensures c.peeks_follow_the_fold.ensures _ (FoundShut g.D.Door.knows g.D.Door.shut) v w told c.args.key c.args.snapshot
    c.learn.ensures.told (subst (λ n. c.args.snapshot ≤ front_of n (published told)) start c.requires.told) plan c.peek.result.1
    (λ seen. subst (λ (b : Plan). IsPrefix (published w.seen) b.pairs.log) (ap (λ (t : Watching Plan). t.basis) seen.same ∙ basis) seen.allowed)
    (subst (λ n. Ascends n plan) start c.requires.plan) c.peek.ensures.answer
