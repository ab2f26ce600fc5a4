-- A node's parameters, and their limits.
use Rattle.std.specs.Prelude.{ℕ, ◌+◌, ◌-◌, ◌/◌, ◌<◌, Bool, nat_lt, nat_le, ◌&&◌, if◌then◌else◌, List, length, sum_by, slice_index, Result, Ok, Err}
use Rattle.std.specs.List.{list_all}
use Rattle.rep_types.specs.declared.limits.TheConstants.{MAX_TABLES, MAX_PAGES, ROWS_PER_PAGE, MAX_WINDOW, MIN_CELLS, MAX_CELLS}
use Rattle.rep_types.specs.declared.key.Key.{Key}
use Rattle.rep_types.specs.declared.refusal.Refusal.{Refusal}
use Rattle.rep_types.specs.declared.refusal.Refusal.TheVariants.{BadParams}

-- a node's parameters without where they lie in memory: the window in seqnos, the cells of the log, and the rows of each table
pub record Setting : Type 0 where
  pub window : ℕ
  pub cells : ℕ
  pub rows : List ℕ

abbrev pub setting : ℕ → ℕ → List ℕ → Setting
setting window cells rows = record { window = window; cells = cells; rows = rows }

-- the pages that so many rows take, 63 in a page
abbrev pub page_count : ℕ → ℕ
page_count rows = (rows + (ROWS_PER_PAGE - 1)) / ROWS_PER_PAGE

-- the pages of all tables
abbrev pub pages_of : List ℕ → ℕ
pages_of rows = sum_by page_count rows

-- The limits of a schema: 1 to 8 tables of at least one row each, and at most 4,096 pages in all.
abbrev pub is_schema : List ℕ → Bool
is_schema rows = nat_lt 0 (length rows) && nat_le (length rows) MAX_TABLES && list_all (nat_lt 0) rows && nat_le (pages_of rows) MAX_PAGES

-- The limits of the parameters: a window of 1 to 256 seqnos, 4 to 1,024 log cells, and a schema.
abbrev pub is_setting : Setting → Bool
is_setting p = nat_le 1 p.window && nat_le p.window MAX_WINDOW && nat_le MIN_CELLS p.cells && nat_le p.cells MAX_CELLS && is_schema p.rows

-- the parameters, or the refusal
abbrev pub allowed : Setting → Result Setting Refusal
allowed p = if is_setting p then Ok p else Err BadParams

-- whether the key names a row of the schema; a table that isn't there has no row
abbrev pub has_row : List ℕ → Key → Bool
has_row rows key = nat_lt key.row (slice_index rows key.table)

-- the same as a statement: the key names a row of the schema
abbrev pub IsRow : List ℕ → Key → Type 0
IsRow rows key = key.row < slice_index rows key.table
