-- What is kept of the items behind a checkpoint: the versions of rows.
use Rattle.std.specs.Prelude.{◌≡◌, ◌≢◌, ◌⊎◌, ℕ, ◌+◌, ◌<◌, ◌≤◌, nat_le, ◌==◌, if◌then◌else◌, List, [], ◌∷◌, ◌++◌, length, slice_index, Option, None, Some, IsSome, Contains, refl}
use Rattle.std.specs.declared.cmp.Ordering.{Ordering}
use Rattle.std.specs.Ordering.{nat_cmp, ordering_then}
use Rattle.std.specs.Coded.{Coded, code_by, coded×, coded_ℕ}
use Rattle.std.specs.FinMap.{FinMap, get, insert, remove}
use Rattle.std.specs.List.Sorted.{IsStrictlyIncreasing}
use Rattle.rep_types.specs.declared.key.Key.{Key}
use Rattle.rep_types.specs.declared.value.Write.{Write}
use Rattle.rep_types.specs.Keys.{key_cmp, key_eq}
use Rattle.rep_types.specs.Order.{latest}
use Rattle.rep_types.specs.Settings.{IsRow}
use Rattle.rep_layout.specs.Rows.{row_place}
use Rattle.rep_versions.specs.declared.versions.VersionKey.{VersionKey}
use Rattle.rep_versions.specs.declared.versions.At.{At}
use Rattle.rep_versions.specs.declared.versions.At.TheVariants.{Found, Deleted, Below}

-- the order of versions: by row, then by seqno
abbrev pub version_cmp : VersionKey → VersionKey → Ordering
version_cmp a b = ordering_then (key_cmp a.key b.key) (nat_cmp a.seqno b.seqno)

-- as numbers
abbrev pub coded_version_key : Coded VersionKey
coded_version_key = code_by ((ℕ × ℕ) × ℕ) (coded× (coded× coded_ℕ coded_ℕ) coded_ℕ) (λ v. ((v.key.table, v.key.row), v.seqno))
    (λ c. record { key = record { table = c.0.0; row = c.0.1 }; seqno = c.1 }) (λ _. refl)

-- What an item made of a row: the bytes that it put, or None where it deleted the row.
abbrev pub Version : Type 0
Version = Option (List ℕ)

-- the versions that are kept (multiversion concurrency control: Bernstein and Goodman, 1983)
abbrev pub Kept : Type 0
Kept = FinMap version_cmp Version

-- the version of a row at a seqno, if there is one
abbrev pub version_at : Kept → Key → ℕ → Option Version
version_at kept key seqno = get kept (record { key = key; seqno = seqno })

-- what stands at a version after a write of its row, if there is one, over what stood there
abbrev pub overlaid : Option Version → Option Write → Option Version
overlaid before None = before
overlaid before (Some write) = Some write.value

-- At the seqno each row that these writes write has what they put, and each other version is as it was.
abbrev pub IsAdded : ℕ → List Write → Kept → Kept → Type 0
IsAdded seqno writes before after = (key : Key) (s : ℕ)
    → version_at after key s ≡ (if s == seqno then overlaid (version_at before key s) (latest (λ (write : Write). key_eq write.key key) writes) else version_at before key s)

-- No version has the seqno any more, and each other is as it was.
abbrev pub IsTakenBack : ℕ → Kept → Kept → Type 0
IsTakenBack seqno before after = (key : Key) (s : ℕ) → version_at after key s ≡ (if s == seqno then None else version_at before key s)

-- No version is at or below the position any more, and each other is as it was.
abbrev pub IsPruned : ℕ → Kept → Kept → Type 0
IsPruned position before after = (key : Key) (s : ℕ) → version_at after key s ≡ (if nat_le s position then None else version_at before key s)

-- The newest version of a row up to the snapshot is the one at the seqno m.
pub record IsNewest (kept : Kept) (key : Key) (snapshot m : ℕ) (version : Version) : Type 0 where
  pub stands : version_at kept key m ≡ Some version
  pub within : m ≤ snapshot
  pub none_above : (n : ℕ) → m < n → n ≤ snapshot → version_at kept key n ≡ None

-- the answer says what the row is at the snapshot
abbrev pub IsAnswer : Kept → Key → ℕ → At → Type 0
IsAnswer kept key snapshot (Found value) = (m : ℕ) × IsNewest kept key snapshot m (Some value.now)
IsAnswer kept key snapshot Deleted = (m : ℕ) × IsNewest kept key snapshot m None
IsAnswer kept key snapshot Below = (m : ℕ) → m ≤ snapshot → version_at kept key m ≡ None

-- what an answer makes of a row that was this below all versions
abbrev pub told : At → Option (List ℕ) → Option (List ℕ)
told (Found value) below = Some value.now
told Deleted below = None
told Below below = below

-- What a row is at a snapshot that was `below` under all versions: what the newest version up to there made it.
pub record IsRowAt (kept : Kept) (key : Key) (snapshot : ℕ) (below row : Option (List ℕ)) : Type 0 where
  pub newest : (m : ℕ) (version : Version) → IsNewest kept key snapshot m version → row ≡ version
  pub none : ((m : ℕ) → m ≤ snapshot → version_at kept key m ≡ None) → row ≡ below

-- The version is above the base and at most at the position, and the schema has its row.
pub record IsWithin (rows : List ℕ) (base position : ℕ) (version : VersionKey) : Type 0 where
  pub above : base < version.seqno
  pub up_to : version.seqno ≤ position
  pub row : IsRow rows version.key

-- A row of the page has a version above the base and at most at the position.
pub record HasChange (kept : Kept) (rows : List ℕ) (base position page : ℕ) : Type 0 where
  pub version : VersionKey
  pub stands : IsSome (get kept version)
  pub within : IsWithin rows base position version
  pub there : (row_place rows version.key).page ≡ page

-- These are the pages with a change, each once and in ascending order.
pub record ArePages (kept : Kept) (rows : List ℕ) (base position : ℕ) (pages : List ℕ) : Type 0 where
  pub ascend : IsStrictlyIncreasing pages
  pub all : (page : ℕ) → HasChange kept rows base position page → Contains pages page
  pub only : (page : ℕ) → Contains pages page → HasChange kept rows base position page

-- the page, if there is one, is the last of these, or it is added behind them
abbrev pub NotesPage : Option ℕ → List ℕ → List ℕ → Type 0
NotesPage None before after = after ≡ before
NotesPage (Some page) before after = ((after ≡ before) × Contains before page) ⊎ ((after ≡ before ++ page ∷ []) × ((k : ℕ) → k + 1 ≡ length before → slice_index before k ≢ page))

-- the versions with this one as it was before
abbrev pub restored : VersionKey → Option Version → Kept → Kept
restored version None kept = remove kept version
restored version (Some before) kept = insert kept version before

-- An item that is added at a seqno of which there is no version, and taken back, leaves what was before.
abbrev pub AddIsTakenBack : Type 0
AddIsTakenBack = (seqno : ℕ) (writes : List Write) (before added after : Kept) → ((key : Key) → version_at before key seqno ≡ None)
    → IsAdded seqno writes before added → IsTakenBack seqno added after → after ≡ before
