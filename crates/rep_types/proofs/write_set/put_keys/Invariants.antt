use Rattle.std.proofs.Common.{◌≡◌, take}
use Rattle.rep_types.proofs.write_set.put_keys.Given as goal

abbrev pub invariant-loop-key : goal.invariant-loop-key
invariant-loop-key l = l.kept.items ≡ take l.key-index l.fn.keys
