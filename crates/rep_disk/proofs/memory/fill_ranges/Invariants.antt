use Rattle.std.proofs.Common.{◌≡◌, length, drop}
use Rattle.rep_disk.specs.Record.{filled, AreWithin}
use Rattle.rep_disk.proofs.memory.fill_ranges.Given as goal

abbrev pub invariant-loop-range : goal.invariant-loop-range
invariant-loop-range l = record {
  filled_so_far : filled (drop l.range-index l.ranges) l.byte l.bytes ≡ filled l.ranges l.byte l.initial.bytes;
  within : AreWithin (length l.initial.bytes) l.ranges;
}
