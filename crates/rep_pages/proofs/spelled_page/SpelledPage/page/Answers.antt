use Rattle.std.proofs.Common.{◌≡◌, sym, ap, ◌∙◌, ℕ, drop, true, false}
use Rattle.rep_pages.specs.declared.page.Page.{Page}
use Rattle.rep_pages.specs.Rows.{Rows}
use Rattle.rep_pages.proofs.Spelled.{rows_behind, rows_told}
use Rattle.rep_pages.proofs.spelled_page.SpelledPage.page.Goals as goal

abbrev page_of : ℕ → ℕ → Rows → Page
page_of number position rows = record { number = number; position = position; rows = rows }

pub unreachable-requires : goal.unreachable-requires
unreachable-requires c =
    let told = c.push_rows.ensures.only c.self.invariant.rows c.self.invariant.fits (c.behind.ensures ∙ (ap (drop 64) c.get.ensures ∙ rows_behind c.self.invariant)) in
    let never : true ≡ false = sym told.0 ∙ c.if-not-push_rows.true in
    absurd cc

pub returns : goal.returns
returns c =
    let told = c.push_rows.ensures.only c.self.invariant.rows c.self.invariant.fits (c.behind.ensures ∙ (ap (drop 64) c.get.ensures ∙ rows_behind c.self.invariant)) in
    ap (page_of c.self.inside.number c.self.inside.position) (c.of.ensures ∙ (told.1 ∙ sym (rows_told c.self.invariant))) ∙ c.self.view_is
