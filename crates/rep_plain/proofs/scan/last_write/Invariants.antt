use Rattle.std.proofs.Common.{◌≡◌, take}
use Rattle.std.specs.Option.{option_copied}
use Rattle.rep_types.specs.declared.value.Write.{Write}
use Rattle.rep_types.specs.Keys.{key_eq}
use Rattle.rep_types.specs.Order.{latest}
use Rattle.rep_plain.proofs.scan.last_write.Given as goal

-- the last of the writes so far
abbrev pub invariant-loop-write : goal.invariant-loop-write
invariant-loop-write l = option_copied l.found ≡ latest (λ (write : Write). key_eq write.key l.key) (take l.write-index l.writes)
