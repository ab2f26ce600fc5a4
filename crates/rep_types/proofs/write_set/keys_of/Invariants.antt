use Rattle.std.proofs.Common.{◌≡◌, map, take}
use Rattle.rep_types.specs.Transactions.{key_of}
use Rattle.rep_types.proofs.write_set.keys_of.Given as goal

abbrev pub invariant-loop-write : goal.invariant-loop-write
invariant-loop-write l = l.keys.items ≡ map key_of (take l.write-index l.writes)
