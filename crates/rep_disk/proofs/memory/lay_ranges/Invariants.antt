use Rattle.std.proofs.Common.{◌≡◌, length, drop}
use Rattle.rep_disk.specs.Record.{laid, AreWithin}
use Rattle.rep_disk.proofs.memory.lay_ranges.Given as goal

abbrev pub invariant-loop-range : goal.invariant-loop-range
invariant-loop-range l = record {
  laid_so_far : laid (drop l.range-index l.ranges) l.source l.bytes ≡ laid l.ranges l.source l.initial.bytes;
  within : AreWithin (length l.source) l.ranges;
  sized : length l.bytes ≡ length l.source;
}
