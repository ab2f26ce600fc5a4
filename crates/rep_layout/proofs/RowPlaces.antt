-- Rows lie in their pages, each at a place of its own.
use Rattle.std.proofs.Common.{◌≡◌, ℕ, zero, suc, ◌+◌, ◌*◌, ◌<◌, ◌≤◌, ◌⊎◌, inl, inr, List, [], ◌∷◌, take, arith}
use Rattle.std.specs.Prelude.{slice_index}
use Rattle.std.proofs.lemmas.List.Sums.{sum_by-cons, sum_by-take-le}
use Rattle.rep_types.specs.declared.key.Key.{Key}
use Rattle.rep_types.specs.Settings.{page_count, pages_of, IsRow}
use Rattle.rep_layout.specs.declared.rows.RowPlace.{RowPlace}
use Rattle.rep_layout.specs.Rows.{pages_before, row_place}

-- a table's pages lie behind those before it and before those of a later one
before_more : (t u : ℕ) (rows : List ℕ) → t < u → pages_before t rows + page_count (slice_index rows t) ≤ pages_before u rows
before_more t zero rows lt = absurd (omega (arith, lt))
before_more zero (suc u) [] lt = omega arith
before_more (suc t) (suc u) [] lt = omega arith
before_more zero (suc u) (x ∷ rows) lt = omega (arith, sum_by-cons page_count x (take u rows))
before_more (suc t) (suc u) (x ∷ rows) lt = omega (arith, sum_by-cons page_count x (take t rows), sum_by-cons page_count x (take u rows), before_more t u rows (omega (arith, lt)))

-- a row lies in the pages of the schema
pub row_within : (rows : List ℕ) (key : Key) → IsRow rows key → (row_place rows key).page < pages_of rows
row_within rows key h = grind (arith, before_more key.table (key.table + 1) rows (omega arith), sum_by-take-le page_count rows (key.table + 1))

-- rows at one place
pub row_told : (rows : List ℕ) (a b : Key) → IsRow rows a → IsRow rows b → row_place rows a ≡ row_place rows b → a ≡ b
row_told rows a b h k e = grind (arith, before_more a.table b.table rows, before_more b.table a.table rows)

-- pages rise with the rows
pub row_rises : (rows : List ℕ) (a b : Key) → IsRow rows a → (a.table < b.table) ⊎ ((a.table ≡ b.table) × (a.row ≤ b.row)) → (row_place rows a).page ≤ (row_place rows b).page
row_rises rows a b row (inl lt) = omega (arith, before_more a.table b.table rows lt, row)
row_rises rows a b row (inr h) = grind (arith, h.0, h.1)

-- the key that is made of a place is that of the row there
pub row_again : (rows : List ℕ) (place : RowPlace) (t page : ℕ) (key : Key) → page < page_count (slice_index rows t) → pages_before t rows + page ≡ place.page → IsRow rows key → row_place rows key ≡ place
    → ◌≡◌ {A = Key} (record { table = t; row = 63 * page + place.index }) key
row_again rows place t page key lt there h e = grind (arith, before_more t key.table rows, before_more key.table t rows)
