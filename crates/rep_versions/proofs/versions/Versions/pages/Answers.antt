use Rattle.std.proofs.Common.{[], ◌==◌, sym, subst}
use Rattle.std.proofs.lemmas.List.Filters.{dedup_is}
use Rattle.rep_versions.specs.Versions.{ArePages}
use Rattle.rep_versions.proofs.Pages.{Gathers, begun, gathered, in_order}
use Rattle.rep_versions.proofs.versions.Versions.pages.Goals as goal

pub loop-key-init : goal.loop-key-init
loop-key-init c =
    let entries = c.self.inside.rows.entries in
    let gives = c.into_iter-key-iterator.ensures.into_iter_gives in
    let start = subst (λ m. Gathers m c.args.schema.now c.args.base c.args.position [] entries) c.self.view_is (begun entries c.args.schema.now c.args.base c.args.position) in
    subst (λ xs. Gathers c.args.self.now c.args.schema.now c.args.base c.args.position xs c.into_iter-key-iterator.result) (sym c.new-pages.ensures.items)
    (subst (λ es. Gathers c.args.self.now c.args.schema.now c.args.base c.args.position [] es) (sym gives.0) start)

pub loop-key-preserved : goal.loop-key-preserved
loop-key-preserved c =
    let before = subst (Gathers c.args.self.now c.args.schema.now c.args.base c.args.position c.loop-key.pages.items) c.in-Some.ensures.steps c.loop-key.invariant in
    gathered c.args.self.now c.args.schema.now c.args.base c.args.position _ _ _ _ _ _ c.page_within-page.ensures.some c.page_within-page.ensures.none c.in_ok-note_page.ensures.noted before

pub returns-clause-pages : goal.returns-clause-pages
returns-clause-pages c =
    let all = subst (Gathers c.args.self.now c.args.schema.now c.args.base c.args.position c.loop-key.pages.items) c.in-None.ensures.steps.0 c.loop-key.invariant in
    let is = dedup_is (λ a b. a == b) _ _ c.dedup.ensures.filtered in
    subst (ArePages c.args.self.now c.args.schema.now c.args.base c.args.position) (sym is)
    (in_order c.args.self.now c.args.schema.now c.args.base c.args.position c.loop-key.pages.items c.sort_unstable.new.self.items all c.sort_unstable.ensures.permutation c.sort_unstable.ensures.sorted)
