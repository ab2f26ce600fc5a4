-- The rows of a page where they lie in its bytes.
use Rattle.std.proofs.Common.{◌≡◌, sym, ap, ◌∙◌, ℕ, zero, suc, ◌+◌, ◌*◌, ◌<◌, ◌≤◌, List, [], ◌∷◌, ◌++◌, length, drop, None, Some, arith}
use Rattle.std.specs.List.{flat_map, AllByRecursion}
use Rattle.std.proofs.lemmas.List.{append-nil, drop_at, get_or_past}
use Rattle.std.proofs.lemmas.List.Concat.{flat_map-cons}
use Rattle.std.proofs.Math.Seq.{drop-append-add}
use Rattle.rep_forms.specs.Rows.{RowFits, row_bytes, row_form}
use Rattle.rep_forms.specs.RowLaws.{row_is_form, row_size}
use Rattle.rep_pages.specs.declared.page.Page.{Page}
use Rattle.rep_pages.specs.Rows.{Rows, row_at, rows_form}
use Rattle.rep_pages.specs.RowsLaws.{rows_are_form}
use Rattle.rep_pages.specs.Pages.{head_bytes, head_of, IsPageBody}
use Rattle.rep_pages.specs.Spelled.{SpellRows, rows_read, rows_in, page_in}
use Rattle.rep_pages.proofs.Bodies.{head_size, rows_fit}

-- behind the head there are the rows
pub rows_behind : {bytes : List ℕ} → (h : SpellRows bytes) → drop 64 bytes ≡ flat_map row_bytes h.rows
rows_behind h = ap (drop 64) h.spelled ∙ drop_at h.head (flat_map row_bytes h.rows) 64 h.size

-- and these are read
pub rows_told : {bytes : List ℕ} → (h : SpellRows bytes) → rows_in bytes ≡ h.rows
unfolding rows_in
rows_told h =
    ap (λ (body : List ℕ). rows_read (rows_form.read body)) (rows_behind h ∙ sym (append-nil (flat_map row_bytes h.rows))) ∙ ap rows_read (rows_are_form.again h.rows [] h.fits)

-- the bytes of a page spell its rows
pub spell_rows : {schema : List ℕ} {page : Page} {bytes : List ℕ} → IsPageBody schema page bytes → SpellRows bytes
spell_rows {page = page} h = record { head = head_bytes (head_of h.first page); rows = page.rows; size = head_size (head_of h.first page); fits = rows_fit h; spelled = h.spelled }

-- so they tell the page
pub page_told : {schema : List ℕ} {page : Page} {bytes : List ℕ} → IsPageBody schema page bytes → page_in page.number page.position bytes ≡ page
unfolding spell_rows
page_told {page = page} h = ap (λ (rows : Rows). record { number = page.number; position = page.position; rows = rows }) (rows_told (spell_rows h))

-- ---- one row

-- at its place a row is spelled
pub row_behind : (rows : Rows) → AllByRecursion RowFits rows → (index : ℕ) → index < length rows → (rest : List ℕ) × (drop (64 * index) (flat_map row_bytes rows) ≡ row_bytes (row_at rows index) ++ rest) × RowFits (row_at rows index)
row_behind [] fits index lt = absurd (omega (arith, lt))
row_behind (row ∷ rows) fits zero lt = (flat_map row_bytes rows, flat_map-cons row_bytes row rows, fits.0)
row_behind (row ∷ rows) fits (suc index) lt =
    let below = row_behind rows fits.1 index (omega (arith, lt)) in
    let at : 64 * suc index ≡ length (row_bytes row) + 64 * index = omega (arith, row_size row fits.0) in (
      below.0,
      rw (at, flat_map-cons row_bytes row rows) (drop-append-add (row_bytes row) (flat_map row_bytes rows) (64 * index)) ∙ below.1,
      below.2,
    )

-- and read
pub row_read : {bytes : List ℕ} → SpellRows bytes → (index : ℕ) → index < 63 → (rest : List ℕ) × (row_form.read (drop (64 + 64 * index) bytes) ≡ Some (row_at (rows_in bytes) index, rest))
row_read {bytes} h index lt =
    let there = row_behind h.rows h.fits.each index (omega (arith, lt, h.fits.size)) in
    let at : 64 + 64 * index ≡ length h.head + 64 * index = omega (arith, h.size) in
    let body : drop (64 + 64 * index) bytes ≡ row_bytes (row_at h.rows index) ++ there.0 = ap (λ (n : ℕ). drop n bytes) at ∙ (ap (drop (length h.head + 64 * index)) h.spelled ∙ (drop-append-add h.head (flat_map row_bytes h.rows) (64 * index) ∙ there.1)) in (
      there.0,
      ap row_form.read body ∙ (row_is_form.again (row_at h.rows index) there.0 there.2 ∙ ap (λ (rows : Rows). Some (row_at rows index, there.0)) (sym (rows_told h))),
    )

-- and from 63 on there is none
pub row_past : {bytes : List ℕ} → SpellRows bytes → (index : ℕ) → 63 ≤ index → row_at (rows_in bytes) index ≡ None
row_past {bytes} h index le = get_or_past (rows_in bytes) index None (omega (arith, le, h.fits.size, ap (λ (rows : Rows). length rows) (rows_told h)))
