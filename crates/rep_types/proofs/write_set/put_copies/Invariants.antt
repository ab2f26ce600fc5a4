use Rattle.std.proofs.Common.{◌≡◌, take}
use Rattle.std.specs.List.{AllByRecursion}
use Rattle.rep_types.specs.Transactions.{HasShortValue}
use Rattle.rep_types.proofs.write_set.put_copies.Given as goal

abbrev pub invariant-loop-write : goal.invariant-loop-write
invariant-loop-write l = (l.copies.items ≡ take l.write-index l.fn.writes) × AllByRecursion HasShortValue (take l.write-index l.fn.writes)
