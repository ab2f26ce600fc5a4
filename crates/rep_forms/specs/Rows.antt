-- The rows of a page as bytes: whether the row is there, how long its value is, the value, and zeros.
use Rattle.std.specs.Prelude.{◌≡◌, ℕ, ◌-◌, ◌*◌, ◌≤◌, List, [], ◌∷◌, ◌++◌, length, slice_index_or, Option, None, Some, IfSome}
use Rattle.std.specs.List.{flat_map, AllByRecursion}
use Rattle.rep_types.specs.declared.limits.TheConstants.{MAX_VALUE}
use Rattle.rep_forms.specs.Forms.{Form, AreBytes, part_of, byte, zeros, both, padded, via, as_named}
use Rattle.rep_forms.specs.Writes.{value_parts, value_of}

-- A row that is there has a value of at most 62 bytes.
pub record RowFits (row : Option (List ℕ)) : Type 0 where
  pub short : IfSome row (λ bytes. length bytes ≤ MAX_VALUE)
  pub bytes : IfSome row AreBytes

-- a row, of 64 bytes: 64 zeros where it is absent, else 1, the length of its value, the value, and zeros
abbrev pub row_bytes : Option (List ℕ) → List ℕ
row_bytes None = zeros 64
row_bytes (Some bytes) = 1 ∷ length bytes ∷ (bytes ++ zeros (MAX_VALUE - length bytes))

-- its fields, one behind another
abbrev pub row_fields : Form (Option (List ℕ))
row_fields = via (both byte (λ present. both byte (λ n. padded (part_of n) (MAX_VALUE - n)))) value_parts (λ x. value_of x.0 x.1.1)

abbrev pub row_form : Form (Option (List ℕ))
row_form = as_named row_fields RowFits row_bytes

-- The bytes spell a row.
pub record IsSpelledRow (bytes : List ℕ) : Type 0 where
  pub row : Option (List ℕ)
  pub fits : RowFits row
  pub spelled : bytes ≡ row_bytes row

-- The bytes are so many rows, one behind another, of which each from a place on is absent.
pub record AreRows (count present : ℕ) (bytes : List ℕ) : Type 0 where
  pub rows : List (Option (List ℕ))
  pub size : length rows ≡ count
  pub fits : AllByRecursion RowFits rows
  pub spelled : bytes ≡ flat_map row_bytes rows
  pub absent : (index : ℕ) → present ≤ index → slice_index_or rows index None ≡ None

-- The row that the bytes spell comes behind the others.
pub record PushesRow (bytes : List ℕ) (old new : List (Option (List ℕ))) : Type 0 where
  pub row : Option (List ℕ)
  pub fits : RowFits row
  pub spelled : bytes ≡ row_bytes row
  pub rows : new ≡ old ++ row ∷ []

-- Each row has 64 bytes, and so have rows one after another.
pub record RowsHaveOneSize : Type 0 where
  pub one : (row : Option (List ℕ)) → RowFits row → length (row_bytes row) ≡ 64
  pub run : (rows : List (Option (List ℕ))) → AllByRecursion RowFits rows → length (flat_map row_bytes rows) ≡ 64 * length rows
