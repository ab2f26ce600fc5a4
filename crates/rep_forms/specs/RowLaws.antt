-- The law of rows as bytes.
use Rattle.std.proofs.Common.{◌≡◌, ℕ, ◌-◌, Option, Some, None, List, length, refl, arith, lit<, length-append}
use Rattle.std.proofs.lemmas.Bool.{le-leb}
use Rattle.rep_types.specs.declared.limits.TheConstants.{MAX_VALUE}
use Rattle.rep_forms.specs.Forms.{IsForm, zeros}
use Rattle.rep_forms.specs.FormLaws.{length_zeros, forms, named_is_form}
use Rattle.rep_forms.specs.Rows.{RowFits, row_bytes, row_fields, row_form}

row_fits : (row : Option (List ℕ)) → RowFits row → row_fields.Fits row
row_fits None h = ((lit< tt, (lit< tt, record { size = refl; each = tt })), refl)
row_fits (Some bytes) h = ((lit< tt, (omega (arith, h.short), record { size = refl; each = h.bytes })), rw (le-leb (length bytes) MAX_VALUE h.short) refl)

row_same : (row : Option (List ℕ)) → row_bytes row ≡ row_fields.spell row
unfolding zeros
row_same None = refl
row_same (Some bytes) = refl

pub row_is_form : IsForm row_form
row_is_form = named_is_form row_fields _ _ (search forms) row_fits (λ row h. row_same row)

-- a row takes 64 bytes
pub row_size : (row : Option (List ℕ)) → RowFits row → length (row_bytes row) ≡ 64
row_size None h = length_zeros 64
row_size (Some bytes) h = omega (arith, h.short, length-append bytes (zeros (MAX_VALUE - length bytes)), length_zeros (MAX_VALUE - length bytes))
