use Rattle.std.proofs.Common.{◌≡◌, ◌∙◌, ℕ, List, slice_index, refl, ap}
use Rattle.std.proofs.lemmas.Option.{same_Some}
use Rattle.rep_pages.proofs.Counting.{count_none, count_some}
use Rattle.rep_pages.proofs.page.row_count.Goals as goal

pub returns-in_default : goal.returns-in_default
returns-in_default c = count_none c.args.schema.now c.args.page (λ key h. let some = c.in_default.ensures.only key h in absurd cc)

pub returns-in-Some-get : goal.returns-in-Some-get
returns-in-Some-get c =
    let at : c.in-Some-get.rows.now ≡ slice_index c.args.schema.now c.in-Some.first.table =
    c.in-Some-get.ensures.lookup.3.1 0 ∙ ap (λ (rows : List ℕ). slice_index rows c.from.result) c.rows.ensures.rows ∙ ap (λ (table : ℕ). slice_index c.args.schema.now table) c.from.ensures in
    count_some c.args.schema.now c.args.page c.min.result c.in-Some.first c.in-Some.ensures.found (λ key h. same_Some _ _ (c.in-Some.ensures.only key h)) (rw (c.min.ensures, c.saturating_sub.ensures, at) refl)
