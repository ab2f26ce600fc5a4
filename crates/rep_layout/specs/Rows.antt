-- Where a row lies: pages are numbered table by table, and a page holds 63 rows.
use Rattle.std.specs.Prelude.{◌≡◌, ◌⊎◌, ℕ, ◌+◌, ◌/◌, ◌%◌, ◌<◌, ◌≤◌, List, take}
use Rattle.rep_types.specs.declared.limits.TheConstants.{ROWS_PER_PAGE}
use Rattle.rep_types.specs.declared.key.Key.{Key}
use Rattle.rep_types.specs.Settings.{pages_of, IsRow}
use Rattle.rep_layout.specs.declared.rows.RowPlace.{RowPlace}

-- the pages of the first tables, so many of them
abbrev pub pages_before : ℕ → List ℕ → ℕ
pages_before tables rows = pages_of (take tables rows)

-- the place of a row
abbrev pub row_place : List ℕ → Key → RowPlace
row_place rows key = record { page = pages_before key.table rows + key.row / ROWS_PER_PAGE; index = key.row % ROWS_PER_PAGE }

-- Rows of a schema lie in its pages, two rows don't lie at one place, and the page of a later row isn't below that of an earlier
-- one.
pub record RowPlacesAreTold : Type 0 where
  pub within : (rows : List ℕ) (key : Key) → IsRow rows key → (row_place rows key).page < pages_of rows
  pub apart : (rows : List ℕ) (a b : Key) → IsRow rows a → IsRow rows b → row_place rows a ≡ row_place rows b → a ≡ b
  pub rise : (rows : List ℕ) (a b : Key) → IsRow rows a → (a.table < b.table) ⊎ ((a.table ≡ b.table) × (a.row ≤ b.row)) → (row_place rows a).page ≤ (row_place rows b).page
