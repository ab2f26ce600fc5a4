use Rattle.std.proofs.Common.{◌≡◌, ◌∙◌, None, true, false, sym, ap, arith}
use Rattle.std.specs.Option.{is_some}
use Rattle.std.proofs.lemmas.List.{get_or_read}
use Rattle.rep_pages.proofs.page.end_with_the_table.Goals as goal

pub loop-index-init : goal.loop-index-init
loop-index-init c = λ k lt past. let row = c.row_count-index.ensures.there k lt in absurd (past row.0 row.1 row.2)

pub returns-then-is_some : goal.returns-then-is_some
returns-then-is_some c = (
  λ e. absurd cc,
  λ h.
      let none = h c.loop-index.index (omega arith) (c.row_count-index.ensures.past c.loop-index.index (omega arith) (omega arith)) in
      let found = get_or_read c.args.rows.now c.loop-index.index c.index-rows-index.result c.loop-index-test.true c.index-rows-index.is None in
      let some : true ≡ false = sym c.if-is_some.true ∙ c.is_some.ensures ∙ ap is_some (found ∙ none) in
      absurd cc,
)
