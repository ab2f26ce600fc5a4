use Rattle.std.proofs.Common.{◌≡◌, ◌≤◌, length, vec_capacity}
use Rattle.rep_node.proofs.ends.with_params.Given as goal

abbrev pub invariant-loop-reader : goal.invariant-loop-reader
invariant-loop-reader l = (l.room.items ≡ l.yielded) × (length l.fn.readers.items ≤ vec_capacity l.room)
