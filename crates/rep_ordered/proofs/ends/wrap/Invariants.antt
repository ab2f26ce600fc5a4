use Rattle.std.proofs.Common.{◌≡◌, ◌+◌, ◌≤◌, ◌++◌, length, map, reverse, Some, vec_capacity}
use Rattle.rep_ordered.proofs.ends.wrap.Given as goal

abbrev pub invariant-loop-value : goal.invariant-loop-value
invariant-loop-value g l = (map Some l.initial.values.items ≡ map Some l.values.items ++ reverse l.slots.items) × (length l.values.items + length l.slots.items ≤ vec_capacity l.slots) × (vec_capacity l.values ≡ vec_capacity l.initial.values)

abbrev pub decreases-loop-value : goal.decreases-loop-value
decreases-loop-value g l = length l.values.items
