use Rattle.std.proofs.Common.{◌≡◌, ◌+◌, ◌≤◌, ◌++◌, length, map, reverse, Some, vec_capacity}
use Rattle.rep_ordered.proofs.ends.unwrap.Given as goal

abbrev pub invariant-loop-slot : goal.invariant-loop-slot
invariant-loop-slot g l = (l.initial.slots.items ≡ l.slots.items ++ map Some (reverse l.values.items)) × (length l.slots.items + length l.values.items ≤ vec_capacity l.values)

abbrev pub decreases-loop-slot : goal.decreases-loop-slot
decreases-loop-slot g l = length l.slots.items
