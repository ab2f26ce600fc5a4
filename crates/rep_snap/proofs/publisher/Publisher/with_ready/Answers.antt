use Rattle.std.proofs.Common.{◌≡◌, ◌∙◌, sym, subst, All, rules}
use Rattle.rep_snap.specs.Views.{Watching}
use Rattle.rep_snap.proofs.Looking.{newcomer_is}
use Rattle.rep_snap.proofs.publisher.Publisher.with_ready.Goals as goal

pub invariant_of-publisher : goal.invariant_of-publisher
invariant_of-publisher g c =
    let kept = c.publisher.invariant in
    let each = subst (λ (u : Watching g.row.A.Denot). All (λ r. r ≡ u) c.in-Ok.ready.items) (sym (newcomer_is _ _ _ _ _ kept.4 (c.publisher.view_is ∙ c.newcomers.ensures.same))) c.in-Ok.ensures.made.1 in
    (kept.0, kept.1, kept.2, kept.3, kept.4, kept.5, each)

pub returns-in-Ok-clause-ready : goal.returns-in-Ok-clause-ready
returns-in-Ok-clause-ready g c = search rules
