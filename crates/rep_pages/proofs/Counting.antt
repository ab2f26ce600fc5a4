-- How many rows of a schema lie in a page.
use Rattle.std.proofs.Common.{◌≡◌, inl, inr, ℕ, ◌+◌, ◌-◌, ◌/◌, ◌%◌, ◌<◌, ◌≤◌, min, List, length, slice_index, None, refl, ap, arith}
use Rattle.std.proofs.lemmas.Bool.{cases_lt}
use Rattle.std.proofs.lemmas.List.{get_or_past}
use Rattle.rep_types.specs.declared.limits.TheConstants.{ROWS_PER_PAGE}
use Rattle.rep_types.specs.declared.key.Key.{Key}
use Rattle.rep_types.specs.Settings.{IsRow}
use Rattle.rep_layout.specs.declared.rows.RowPlace.{RowPlace}
use Rattle.rep_layout.specs.Rows.{pages_before, row_place}
use Rattle.rep_pages.specs.Rows.{Rows, row_at}
use Rattle.rep_pages.specs.Pages.{place, IsFirstRow, IsRowCount, EndWithTheTable}

-- the first row of a page that a row lies in
first_of : (schema : List ℕ) (page index : ℕ) (key : Key) → IsRow schema key → row_place schema key ≡ place page index → IsFirstRow schema page (record { table = key.table; row = key.row - index })
first_of schema page index key row there =
    let on : pages_before key.table schema + key.row / 63 ≡ page = ap (λ (p : RowPlace). p.page) there in
    let at : key.row % 63 ≡ index = ap (λ (p : RowPlace). p.index) there in
    let same : (key.row - index) / 63 ≡ key.row / 63 = omega arith in
    let zeroth : (key.row - index) % 63 ≡ 0 = omega arith in
    record { row = omega (arith, row); there = rw (same, zeroth, on) refl }

-- the rows behind it lie at the places behind the first
place_of : (schema : List ℕ) (page index : ℕ) (first : Key) → IsFirstRow schema page first → index < 63 → row_place schema (record { table = first.table; row = first.row + index }) ≡ place page index
place_of schema page index first h lt =
    let on : pages_before first.table schema + first.row / 63 ≡ page = ap (λ (p : RowPlace). p.page) h.there in
    let at : first.row % 63 ≡ 0 = ap (λ (p : RowPlace). p.index) h.there in
    let same : (first.row + index) / 63 ≡ first.row / 63 = omega arith in
    let here : (first.row + index) % 63 ≡ index = omega arith in
    rw (same, here, on) refl

-- a page without a first row has no row
pub count_none : (schema : List ℕ) (page : ℕ) → ((key : Key) → IsFirstRow schema page key → ⊥) → IsRowCount schema page 0
count_none schema page none = record {
  few = omega arith;
  there = λ index lt. absurd (omega (arith, lt));
  past = λ index le lt key row there. none (record { table = key.table; row = key.row - index }) (first_of schema page index key row there);
}

-- else those of its table from the first on, up to 63
pub count_some : (schema : List ℕ) (page count : ℕ) (first : Key) → IsFirstRow schema page first → ((key : Key) → IsFirstRow schema page key → first ≡ key) → count ≡ min (slice_index schema first.table - first.row) 63 → IsRowCount schema page count
count_some schema page count first begins one is = record {
  few = omega (arith, is);
  there = λ index lt. (record { table = first.table; row = first.row + index }, omega (arith, is, lt), place_of schema page index first begins (omega (arith, is, lt)));
  past = λ index le lt key row there.
      let same = one (record { table = key.table; row = key.row - index }) (first_of schema page index key row there) in
      let table : first.table ≡ key.table = ap (λ (k : Key). k.table) same in
      let behind : first.row ≡ key.row - index = ap (λ (k : Key). k.row) same in
      let at : key.row % 63 ≡ index = ap (λ (p : RowPlace). p.index) there in
      let within : key.row < slice_index schema first.table = rw table row in
      omega (arith, is, le, lt, within, behind, at);
}

-- ---- rows that end with the table

-- rows that are absent behind those
pub ends_with : (schema : List ℕ) (page count : ℕ) (rows : Rows) → IsRowCount schema page count → ((index : ℕ) → count ≤ index → row_at rows index ≡ None) → EndWithTheTable schema page rows
ends_with schema page count rows is absent index lt past = elim (cases_lt index count) [
  | inl there ↦ let row = is.there index there in absurd (past row.0 row.1 row.2)
  | inr behind ↦ absent index behind
]

-- and such rows are
pub absent_behind : (schema : List ℕ) (page count : ℕ) (rows : Rows) → IsRowCount schema page count → length rows ≡ ROWS_PER_PAGE → EndWithTheTable schema page rows → (index : ℕ) → count ≤ index → row_at rows index ≡ None
absent_behind schema page count rows is size ends index le = elim (cases_lt index ROWS_PER_PAGE) [
  | inl lt ↦ ends index lt (is.past index le lt)
  | inr behind ↦ get_or_past rows index None (omega (arith, size, behind))
]
