use Rattle.std.proofs.Common.{◌≤◌, ◌+◌, ◌*◌, ◌^◌}
use Rattle.rep_types.specs.Sums.{keys_from}
use Rattle.rep_sum.specs.Sums.{Adds}
use Rattle.rep_sum.proofs.summing.Summing.add_table.Given as goal

-- the rows so far were read and digested
abbrev pub invariant-loop-row : goal.invariant-loop-row
invariant-loop-row g l = record {
  adds : Adds g.D.Disk l.position (keys_from l.table 0 l.row) l.initial.replica l.initial.self l.replica l.self;
  few : l.self.rows ≤ 2 ^ 32 * l.table + l.row;
}
