use Rattle.std.proofs.Common.{◌≡◌, sym, ap, ◌∙◌, ℕ, List, Option, None, Some}
use Rattle.std.proofs.lemmas.Option.{same_Some}
use Rattle.rep_forms.specs.Rows.{row_form}
use Rattle.rep_pages.specs.Rows.{row_at}
use Rattle.rep_pages.specs.Spelled.{rows_in}
use Rattle.rep_pages.proofs.Spelled.{row_read, row_past}
use Rattle.rep_pages.proofs.spelled_page.row_of_bytes.Goals as goal

pub returns-then-index-ge-ROWS_PER_PAGE : goal.returns-then-index-ge-ROWS_PER_PAGE
returns-then-index-ge-ROWS_PER_PAGE c = sym (row_past c.requires c.args.index c.if-index-ge-ROWS_PER_PAGE.true)

pub unreachable-requires : goal.unreachable-requires
unreachable-requires c =
    let there = row_read c.requires c.args.index c.if-index-ge-ROWS_PER_PAGE.false in
    let never : ◌≡◌ {A = Option (Option (List ℕ) × List ℕ)} None (Some (row_at (rows_in c.args.bytes.now) c.args.index, there.0)) = c.in_default.ensures ∙ (ap row_form.read c.behind.ensures ∙ there.1) in
    absurd cc

pub returns : goal.returns
returns c =
    let there = row_read c.requires c.args.index c.if-index-ge-ROWS_PER_PAGE.false in
    let same : Some (c.in-Some.row, c.in-Some.field-0-1.now) ≡ Some (row_at (rows_in c.args.bytes.now) c.args.index, there.0) = c.in-Some.ensures ∙ (ap row_form.read c.behind.ensures ∙ there.1) in
    ap (λ (x : Option (List ℕ) × List ℕ). x.0) (same_Some _ _ same)
