-- Pages as bytes: what a page says, and the one spelling that it has.
use Rattle.std.specs.Prelude.{◌≡◌, ◌≢◌, ℕ, ◌<◌, ◌≤◌, ◌^◌, List, ◌∷◌, ◌++◌, length, codes, Some, None}
use Rattle.std.specs.List.{flat_map, AllByRecursion}
use Rattle.rep_types.specs.declared.limits.TheConstants.{ROWS_PER_PAGE}
use Rattle.rep_types.specs.declared.key.Key.{Key}
use Rattle.rep_types.specs.Settings.{IsRow}
use Rattle.rep_forms.specs.Forms.{Form, byte, number, number_bytes, zeros, ◌⊗◌, padded, marked, via, as_named}
use Rattle.rep_forms.specs.Rows.{RowFits, row_bytes}
use Rattle.rep_layout.specs.declared.rows.RowPlace.{RowPlace}
use Rattle.rep_layout.specs.Rows.{row_place}
use Rattle.rep_pages.specs.declared.page.Page.{Page}
use Rattle.rep_pages.specs.declared.page.Head.{Head}
use Rattle.rep_pages.specs.Rows.{Rows, row_at}

abbrev pub place : ℕ → ℕ → RowPlace
place page index = record { page = page; index = index }

-- No row of the schema lies at this place of a page: there is no such page, or its table ends before.
abbrev pub IsPastRows : List ℕ → ℕ → ℕ → Type 0
IsPastRows schema page index = (key : Key) → IsRow schema key → row_place schema key ≢ place page index

-- The row is the first of the page.
pub record IsFirstRow (schema : List ℕ) (page : ℕ) (first : Key) : Type 0 where
  pub row : IsRow schema first
  pub there : row_place schema first ≡ place page 0

-- So many rows of the schema lie in the page, at its first places.
pub record IsRowCount (schema : List ℕ) (page count : ℕ) : Type 0 where
  pub few : count ≤ ROWS_PER_PAGE
  pub there : (index : ℕ) → index < count → (key : Key) × IsRow schema key × (row_place schema key ≡ place page index)
  pub past : (index : ℕ) → count ≤ index → index < ROWS_PER_PAGE → IsPastRows schema page index

-- Rows past the end of the page's table are absent.
abbrev pub EndWithTheTable : List ℕ → ℕ → Rows → Type 0
EndWithTheTable schema page rows = (index : ℕ) → index < ROWS_PER_PAGE → IsPastRows schema page index → row_at rows index ≡ None

-- A page of a schema, with its first row.
pub record IsPage (schema : List ℕ) (first : Key) (page : Page) : Type 0 where
  pub begins : IsFirstRow schema page.number first
  pub size : length page.rows ≡ ROWS_PER_PAGE
  pub past : EndWithTheTable schema page.number page.rows

-- ---- the spelling

-- the first eight bytes of this format: REPPAGE1
unfoldable pub page_mark : List ℕ
page_mark = codes "REPPAGE1"

-- the mark, the page's number, and the table
abbrev pub front_bytes : Head → List ℕ
front_bytes head = page_mark ++ (number_bytes 2 head.number ++ (head.first.table ∷ zeros 1))

-- and the table's row that is the first of the page, and the position that the page was written for
abbrev pub head_bytes : Head → List ℕ
head_bytes head = front_bytes head ++ (number_bytes 4 head.first.row ++ (number_bytes 8 head.position ++ zeros 40))

abbrev pub head_of : Key → Page → Head
head_of first page = record { number = page.number; first = first; position = page.position }

-- ---- the form of the head

abbrev pub head_fields : Form Head
head_fields =
    via (marked page_mark (number 2 ⊗ (padded byte 1 ⊗ (number 4 ⊗ padded (number 8) 40))))
    (λ (head : Head). (head.number, (head.first.table, (head.first.row, head.position))))
    (λ x. Some (record { number = x.0; first = record { table = x.1.0; row = x.1.1.0 }; position = x.1.1.1 }))

-- its numbers are in the range of their types
pub record HeadFits (head : Head) : Type 0 where
  pub number : head.number < 2 ^ 16
  pub table : head.first.table < 2 ^ 8
  pub row : head.first.row < 2 ^ 32
  pub position : head.position < 2 ^ 64

abbrev pub head_form : Form Head
head_form = as_named head_fields HeadFits head_bytes

-- ---- pages

-- A page, of 4,096 bytes.
abbrev pub page_bytes : Key → Page → List ℕ
page_bytes first page = head_bytes (head_of first page) ++ flat_map row_bytes page.rows

-- The bytes begin with the head of the page of this number, as it was written for a position, and the body is behind that.
pub record BeginsPage (schema : List ℕ) (number position : ℕ) (bytes body : List ℕ) : Type 0 where
  pub first : Key
  pub begins : IsFirstRow schema number first
  pub head : HeadFits (record { number = number; first = first; position = position })
  pub spelled : bytes ≡ head_bytes (record { number = number; first = first; position = position }) ++ body

-- These bytes are a page of the schema: its spelling.
pub record IsPageBody (schema : List ℕ) (page : Page) (bytes : List ℕ) : Type 0 where
  pub first : Key
  pub is : IsPage schema first page
  pub head : HeadFits (head_of first page)
  pub rows : AllByRecursion RowFits page.rows
  pub spelled : bytes ≡ page_bytes first page

-- The bytes of a page tell what it says.
abbrev pub PagesAreTold : Type 0
PagesAreTold = (schema : List ℕ) (v w : Page) (bytes : List ℕ) → IsPageBody schema v bytes → IsPageBody schema w bytes → v ≡ w
