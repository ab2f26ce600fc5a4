-- The pieces of a transfer: values that are read one after another, each of which tells early how long it is.
use Rattle.std.specs.Prelude.{◌≡◌, ℕ, ◌+◌, ◌*◌, ◌-◌, ◌^◌, ◌<◌, ◌≤◌, List, ◌++◌, length, take, get_or, Option, Some, IfSome}
use Rattle.rep_forms.specs.Forms.{Form, number, number_bytes, number_in, ◌⊗◌, via, as_named}
use Rattle.rep_pages.specs.Rows.{rows_form}
use Rattle.rep_transfer.specs.declared.pieces.NumberedPage.{NumberedPage}
use Rattle.rep_transfer.specs.declared.pieces.TheConstants.{PIECE}

-- The first bytes of a spelling, so many of them, tell how many more there are; and there is room for all.
pub record IsPaced {A : Type 0} (F : Form A) (head : ℕ) (more : List ℕ → ℕ) : Type 0 where
  pub size : (x : A) → F.Fits x → length (F.spell x) ≡ head + more (take head (F.spell x))
  pub room : (x : A) → F.Fits x → length (F.spell x) ≤ PIECE
  pub first : head ≤ PIECE

-- no more
abbrev pub no_more : List ℕ → ℕ
no_more head = 0

-- What a reader of all of the bytes answers: the value that they spell, where they spell one.
pub record IsWhole {A : Type 0} (F : Form A) (bytes : List ℕ) (result : Option A) : Type 0 where
  pub found : IfSome result (λ x. F.Fits x × (bytes ≡ F.spell x))
  pub only : (x : A) → F.Fits x → bytes ≡ F.spell x → result ≡ Some x

-- ---- a page: its number, and its rows

pub record PageFits (p : NumberedPage) : Type 0 where
  pub number : p.number < 2 ^ 16
  pub rows : rows_form.Fits p.rows

abbrev pub page_bytes : NumberedPage → List ℕ
page_bytes p = number_bytes 2 p.number ++ rows_form.spell p.rows

abbrev pub page_fields : Form NumberedPage
page_fields = via (number 2 ⊗ rows_form) (λ (p : NumberedPage). (p.number, p.rows)) (λ x. Some (record { number = x.0; rows = x.1 }))

abbrev pub page_form : Form NumberedPage
page_form = as_named page_fields PageFits page_bytes

-- ---- pieces that tell how long they are

-- the bytes of an entry's keys, by its seqno and how many keys there are
unfoldable pub more_of_entry : List ℕ → ℕ
more_of_entry head = 5 * get_or head 8 0

-- the bytes of a record behind its length
unfoldable pub more_of_record : List ℕ → ℕ
more_of_record head = number_in 2 head - 2
