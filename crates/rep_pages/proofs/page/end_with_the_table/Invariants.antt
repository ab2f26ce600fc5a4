use Rattle.std.proofs.Common.{◌≡◌, ◌<◌, ℕ, None}
use Rattle.rep_pages.specs.Rows.{row_at}
use Rattle.rep_pages.specs.Pages.{IsPastRows}
use Rattle.rep_pages.proofs.page.end_with_the_table.Given as goal

-- no row so far is past the end of the table
abbrev pub invariant-loop-index : goal.invariant-loop-index
invariant-loop-index l = (k : ℕ) → k < l.index → IsPastRows l.schema l.page k → row_at l.rows k ≡ None
