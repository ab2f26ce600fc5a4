-- What a change does to the value that readers look at.
use Rattle.std.specs.Prelude.{ℕ, ◌+◌, nat_lt, nat_le, not, max, if◌then◌else◌, List, [], ◌∷◌}
use Rattle.std.specs.FinMap.{insert, retain_keys}
use Rattle.rep_types.specs.declared.value.Write.{Write}
use Rattle.rep_versions.specs.Versions.{Kept}
use Rattle.rep_snap.specs.declared.change.Change.{Change}
use Rattle.rep_snap.specs.declared.change.Change.TheVariants.{Publish, Prune}
use Rattle.rep_snap.specs.declared.shelf.Shelf.{Shelf}
use Rattle.rep_snap.specs.declared.shelf.Step.{Step}

-- the versions with these writes at the seqno
abbrev pub added : ℕ → List Write → Kept → Kept
added seqno [] kept = kept
added seqno (write ∷ writes) kept = added seqno writes (insert kept (record { key = write.key; seqno = seqno }) write.value)

-- the versions above the position
abbrev pub pruned : ℕ → Kept → Kept
pruned position kept = retain_keys kept (λ version. not (nat_le version.seqno position))

module _ {A : Type 0} where
  -- A pair that is not above the oldest snapshot is not kept: no snapshot finds it.
  abbrev pub taken : Change → Shelf A → Shelf A
  taken (Publish pair) x = record x { front = pair.seqno; kept = if nat_lt x.oldest pair.seqno then added pair.seqno pair.writes.items x.kept else x.kept }
  taken (Prune c) x = record x { oldest = max x.oldest c; kept = pruned c x.kept }

  abbrev pub changed : Shelf A → Step → Shelf A
  changed x step = record (taken step.change x) { count = x.count + 1; sight = record x.sight { seen = step.seen } }
