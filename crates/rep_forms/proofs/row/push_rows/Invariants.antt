use Rattle.std.proofs.Common.{◌≡◌, ◌++◌, length}
use Rattle.std.specs.List.{flat_map, AllByRecursion}
use Rattle.rep_forms.specs.Rows.{RowFits, row_bytes}
use Rattle.rep_forms.proofs.row.push_rows.Given as goal

-- the rows so far are spelled up to the rest
abbrev pub invariant-loop : goal.invariant-loop
invariant-loop g l = record {
  fits : AllByRecursion RowFits l.rows.items;
  size : length l.rows.items ≡ l.counter;
  there : l.bytes ≡ flat_map row_bytes l.rows.items ++ l.rest;
}
