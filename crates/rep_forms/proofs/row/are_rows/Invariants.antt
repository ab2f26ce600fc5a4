use Rattle.std.proofs.Common.{◌≡◌, ◌≤◌, ◌++◌, ℕ, List, length, get_or, Option, None}
use Rattle.std.specs.List.{flat_map, AllByRecursion}
use Rattle.rep_forms.specs.Rows.{RowFits, row_bytes}
use Rattle.rep_forms.proofs.row.are_rows.Given as goal

-- so many rows are spelled up to the rest, and each from the place on is absent
abbrev pub invariant-loop-index : goal.invariant-loop-index
invariant-loop-index g l =
    (rows : List (Option (List ℕ))) × AllByRecursion RowFits rows × (length rows ≡ l.index) × (l.bytes ≡ flat_map row_bytes rows ++ l.rest) × ((place : ℕ) → l.present ≤ place → get_or rows place None ≡ None)
