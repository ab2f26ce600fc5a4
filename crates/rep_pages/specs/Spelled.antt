-- A page as the bytes that spell it.
use Rattle.std.specs.Prelude.{◌≡◌, ℕ, List, [], ◌++◌, length, drop, Option, None, Some}
use Rattle.rep_pages.specs.declared.page.Page.{Page}
use Rattle.rep_pages.specs.Rows.{Rows, rows_form}

-- Behind the 64 bytes of a head the bytes spell the rows of a page.
pub record SpellRows (bytes : List ℕ) : Type 0 where
  pub head : List ℕ
  pub rows : Rows
  pub size : length head ≡ 64
  pub fits : rows_form.Fits rows
  pub spelled : bytes ≡ head ++ rows_form.spell rows

abbrev pub rows_read : Option (Rows × List ℕ) → Rows
rows_read (Some x) = x.0
rows_read None = []

-- the rows that are read behind a head
unfoldable pub rows_in : List ℕ → Rows
rows_in bytes = rows_read (rows_form.read (drop 64 bytes))

-- the page of this number, as it was written for a position, whose rows the bytes spell
abbrev pub page_in : ℕ → ℕ → List ℕ → Page
page_in number position bytes = record { number = number; position = position; rows = rows_in bytes }
