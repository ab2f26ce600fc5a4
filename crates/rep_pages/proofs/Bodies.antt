-- What is read as a page is spelled so, and what is spelled so is read.
use Rattle.std.proofs.Common.{◌≡◌, refl, sym, ap, ◌∙◌, ℕ, List, [], ◌++◌, length, Some, arith, length-append}
use Rattle.std.specs.List.{flat_map, AllByRecursion}
use Rattle.std.proofs.lemmas.Option.{same_Some}
use Rattle.rep_types.specs.declared.key.Key.{Key}
use Rattle.rep_types.specs.declared.limits.TheConstants.{ROWS_PER_PAGE}
use Rattle.rep_forms.specs.Forms.{TakesFront}
use Rattle.rep_forms.specs.FormLaws.{length_number, length_zeros, run_size}
use Rattle.rep_forms.specs.Rows.{RowFits, row_bytes}
use Rattle.rep_forms.specs.RowLaws.{row_size}
use Rattle.rep_forms.specs.Told.{AreTold}
use Rattle.rep_pages.specs.declared.page.Page.{Page}
use Rattle.rep_pages.specs.declared.page.Head.{Head}
use Rattle.rep_pages.specs.Rows.{Rows, rows_form}
use Rattle.rep_pages.specs.Pages.{IsFirstRow, EndWithTheTable, page_mark, head_bytes, IsPageBody, BeginsPage, head_of, head_form, page_bytes}

-- a head takes 64 bytes, and 63 rows 4,032
pub head_size : (head : Head) → length (head_bytes head) ≡ 64
unfolding page_mark
head_size head = simp (length-append, length_number, length_zeros) refl

pub body_size : (first : Key) (page : Page) → length page.rows ≡ ROWS_PER_PAGE → AllByRecursion RowFits page.rows → length (page_bytes first page) ≡ 4096
body_size first page size fit =
    omega (arith, length-append (head_bytes (head_of first page)) (flat_map row_bytes page.rows), head_size (head_of first page), run_size row_bytes RowFits 64 row_size page.rows fit, size)

-- all rows of a page fit
pub rows_fit : {schema : List ℕ} {page : Page} {bytes : List ℕ} → IsPageBody schema page bytes → rows_form.Fits page.rows
rows_fit h = record { size = h.is.size; few = omega arith; each = h.rows }

-- it begins with its head, behind which are its rows
pub begins_of : {schema : List ℕ} {page : Page} {bytes : List ℕ} → (h : IsPageBody schema page bytes) → BeginsPage schema page.number page.position bytes (flat_map row_bytes page.rows)
begins_of h = record { first = h.first; begins = h.is.begins; head = h.head; spelled = h.spelled }

-- the head that is read is that, and so is what is behind it
pub head_read : {schema : List ℕ} {number position : ℕ} {bytes body found : List ℕ} {head : Head} → (h : BeginsPage schema number position bytes body) → TakesFront head_form bytes (Some (head, found))
    → (head ≡ record { number = number; first = h.first; position = position }) × (found ≡ body)
head_read {schema} {number} {position} {bytes} {body} {found} {head} h front =
    let same = same_Some _ _ (front.only (record { number = number; first = h.first; position = position }) body h.head h.spelled) in
    (ap (λ (x : Head × List ℕ). x.0) same, ap (λ (x : Head × List ℕ). x.1) same)

-- ---- what is read is spelled so

-- a head of this number and of the first row
pub begins_page : (schema : List ℕ) (number : ℕ) (first : Key) (head : Head) (bytes body : List ℕ) → TakesFront head_form bytes (Some (head, body)) → head.number ≡ number → head.first ≡ first → IsFirstRow schema number first
    → BeginsPage schema number head.position bytes body
begins_page schema number first head bytes body front n f begins =
    let same : ◌≡◌ {A = Head} (record { number = number; first = first; position = head.position }) head = grind (arith, n, f) in
    record { first = first; begins = begins; head = rw same front.found.0; spelled = front.found.1 ∙ ap (λ (h : Head). head_bytes h ++ body) (sym same) }

-- and behind it rows that end with the table
pub page_is : (schema : List ℕ) (number position : ℕ) (bytes body : List ℕ) (rows : Rows) → BeginsPage schema number position bytes body → rows_form.Fits rows → body ≡ flat_map row_bytes rows → EndWithTheTable schema number rows
    → IsPageBody schema (record { number = number; position = position; rows = rows }) bytes
page_is schema number position bytes body rows front fits there past = record {
  first = front.first;
  is = record { begins = front.begins; size = fits.size; past = past };
  head = front.head;
  rows = fits.each;
  spelled = front.spelled ∙ ap (λ (bytes : List ℕ). head_bytes (record { number = number; first = front.first; position = position }) ++ bytes) there;
}

-- ---- pages are told apart

pub told_by : AreTold head_form → AreTold rows_form → (schema : List ℕ) (v w : Page) (bytes : List ℕ) → IsPageBody schema v bytes → IsPageBody schema w bytes → v ≡ w
told_by heads runs schema v w bytes h k =
    let apart = heads (head_of h.first v) (head_of k.first w) (flat_map row_bytes v.rows) (flat_map row_bytes w.rows) h.head k.head (sym h.spelled ∙ k.spelled) in
    let rows = (runs v.rows w.rows [] [] (rows_fit h) (rows_fit k) (ap (λ (bytes : List ℕ). bytes ++ []) apart.1)).0 in
    grind (arith, apart.0, rows)
