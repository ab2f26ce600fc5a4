use Rattle.std.proofs.Common.{◌≡◌, length, take}
use Rattle.rep_sum.specs.Sums.{AreGiven, keys_read}
use Rattle.rep_service.proofs.rows.read_rows.Given as goal

-- the rows so far were given
abbrev pub invariant-loop-key : goal.invariant-loop-key
invariant-loop-key g l = record {
  keys : keys_read l.rows.items ≡ take l.key-index l.keys;
  given : AreGiven g.D.Disk l.fn.at l.fn.replica l.rows.items l.replica;
  few : length l.rows.items ≡ l.key-index;
}
