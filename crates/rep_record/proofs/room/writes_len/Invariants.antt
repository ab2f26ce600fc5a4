use Rattle.std.proofs.Common.{◌≡◌, ◌*◌, ◌≤◌, length, take}
use Rattle.std.specs.List.{flat_map}
use Rattle.rep_forms.specs.Writes.{write_bytes}
use Rattle.rep_record.proofs.room.writes_len.Given as goal

-- the writes so far have so many bytes
abbrev pub invariant-loop-write : goal.invariant-loop-write
invariant-loop-write l = record {
  size : l.size ≡ length (flat_map write_bytes (take l.write-index l.writes));
  few : l.size ≤ 69 * l.write-index;
}
