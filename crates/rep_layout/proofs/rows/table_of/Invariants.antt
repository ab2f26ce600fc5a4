use Rattle.std.proofs.Common.{◌≡◌, ◌+◌}
use Rattle.rep_layout.specs.Rows.{pages_before}
use Rattle.rep_layout.proofs.rows.table_of.Given as goal

-- the pages of the tables so far, and those that are left
abbrev pub invariant-loop-table : goal.invariant-loop-table
invariant-loop-table l = pages_before l.table l.rows + l.left ≡ l.page
