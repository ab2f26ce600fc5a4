-- The rows of a page, by their places.
use Rattle.std.specs.Prelude.{ℕ, List, Option, None, slice_index_or}
use Rattle.rep_types.specs.declared.limits.TheConstants.{ROWS_PER_PAGE}
use Rattle.rep_forms.specs.Forms.{Form, many}
use Rattle.rep_forms.specs.Rows.{row_form}

-- what is stored in each row of a page, or None where it is absent
abbrev pub Rows : Type 0
Rows = List (Option (List ℕ))

-- the row at a place; past the last place there is none
abbrev pub row_at : Rows → ℕ → Option (List ℕ)
row_at rows index = slice_index_or rows index None

-- all rows of a page as bytes, one behind another
abbrev pub rows_form : Form Rows
rows_form = many ROWS_PER_PAGE ROWS_PER_PAGE row_form
