use Rattle.std.proofs.Common.{◌≡◌, ◌≤◌, ◌*◌, ◌^◌, take}
use Rattle.rep_types.specs.Sums.{keys_of}
use Rattle.rep_sum.specs.Sums.{Adds}
use Rattle.rep_sum.proofs.summing.Summing.add_tables.Given as goal

-- the rows of the tables so far were read and digested
abbrev pub invariant-loop-table : goal.invariant-loop-table
invariant-loop-table g l = record {
  adds : Adds g.D.Disk l.position (keys_of (take l.table l.rows-items)) l.initial.replica l.initial.self l.replica l.self;
  few : l.self.rows ≤ 2 ^ 32 * l.table;
  items : l.rows-items ≡ l.initial.replica.engine.checkpoint.base.params.rows;
}
