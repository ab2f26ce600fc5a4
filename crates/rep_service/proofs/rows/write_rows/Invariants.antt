use Rattle.std.proofs.Common.{◌≡◌, ◌+◌, ◌≤◌, ◌*◌, ◌++◌, length, take}
use Rattle.std.specs.Prelude.{codes}
use Rattle.std.specs.List.{flat_map}
use Rattle.std.specs.Fmt.{decimal}
use Rattle.rep_service.specs.Lines.{row_part}
use Rattle.rep_service.proofs.rows.write_rows.Given as goal

-- the rows so far
abbrev pub invariant-loop-row : goal.invariant-loop-row
invariant-loop-row g l = record {
  text : l.line.items ≡ (codes "rows " ++ decimal l.fn.at) ++ flat_map row_part (take l.row-index l.rows);
  few : length l.line.items ≤ 25 + 167 * l.row-index;
}
