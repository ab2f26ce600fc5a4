-- The versions of one row, as a list, and those of all rows.
use Rattle.std.specs.Prelude.{◌≡◌, ℕ, ◌<◌, ◌≤◌, List, [], ◌∷◌, ◌++◌, map, Option, None, Some, IsSome, length, slice_index_or}
use Rattle.std.specs.BTreeMap.{is_at}
use Rattle.std.specs.Map.{lookup}
use Rattle.std.specs.Ordering.{nat_cmp}
use Rattle.std.specs.FinMap.{from_entries}
use Rattle.rep_types.specs.declared.key.Key.{Key}
use Rattle.rep_layout.specs.Rows.{row_place}
use Rattle.rep_versions.specs.declared.versions.VersionKey.{VersionKey}
use Rattle.rep_versions.specs.Versions.{Version, Kept, version_cmp, IsWithin}

-- the versions of a row, each under its seqno
abbrev pub RowVersions : Type 0
RowVersions = List (ℕ × Version)

-- the version of a seqno, if there is one
abbrev pub made_at : RowVersions → ℕ → Option Version
made_at row s = lookup (is_at (nat_cmp s)) row

-- Of a row's versions the first so many are at most at the seqno, and the others above it.
pub record SplitsAt (row : RowVersions) (seqno count : ℕ) : Type 0 where
  pub bound : count ≤ length row
  pub within : (k : ℕ) (d : ℕ × Version) → k < count → (slice_index_or row k d).0 ≤ seqno
  pub above : (k : ℕ) (d : ℕ × Version) → count ≤ k → k < length row → seqno < (slice_index_or row k d).0

-- The version of the seqno stands at this place.
pub record IsPlace (row : RowVersions) (seqno i : ℕ) : Type 0 where
  pub bound : i < length row
  pub there : (d : ℕ × Version) → (slice_index_or row i d).0 ≡ seqno

-- No version has the seqno: those before this place are below it, and the others above it.
pub record IsGap (row : RowVersions) (seqno i : ℕ) : Type 0 where
  pub bound : i ≤ length row
  pub below : (k : ℕ) (d : ℕ × Version) → k < i → (slice_index_or row k d).0 < seqno
  pub above : (k : ℕ) (d : ℕ × Version) → i ≤ k → k < length row → seqno < (slice_index_or row k d).0

-- The newest version of a row up to the seqno is this one.
pub record IsNewestOf (row : RowVersions) (seqno : ℕ) (version : ℕ × Version) : Type 0 where
  pub stands : made_at row version.0 ≡ Some version.1
  pub within : version.0 ≤ seqno
  pub none_above : (s : ℕ) → version.0 < s → s ≤ seqno → made_at row s ≡ None

-- the versions of a row, each under its name
abbrev pub named : Key → RowVersions → List (VersionKey × Version)
named key row = map (λ v. (record { key = key; seqno = v.0 }, v.1)) row

-- the versions of all rows, each under its name
abbrev pub all_named : List (Key × RowVersions) → List (VersionKey × Version)
all_named [] = []
all_named (e ∷ es) = named e.0 e.1 ++ all_named es

-- what rows keep
abbrev pub kept_of : List (Key × RowVersions) → Kept
kept_of rows = from_entries {R = version_cmp} (all_named rows)

-- The row has a version above the base and at most at the position, the schema has the row, and this is its page.
pub record ChangesPage (rows : List ℕ) (base position : ℕ) (key : Key) (row : RowVersions) (page : ℕ) : Type 0 where
  pub seqno : ℕ
  pub stands : IsSome (made_at row seqno)
  pub within : IsWithin rows base position (record { key = key; seqno = seqno })
  pub there : (row_place rows key).page ≡ page
