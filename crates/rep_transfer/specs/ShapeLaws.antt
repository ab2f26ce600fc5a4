-- The law of shapes as bytes.
use Rattle.std.proofs.Common.{◌≡◌, length, true, refl, arith, length-append}
use Rattle.std.proofs.lemmas.Bool.Decides.{nat_tests}
use Rattle.rep_types.specs.Settings.{Setting, is_setting}
use Rattle.rep_forms.specs.Forms.{IsForm}
use Rattle.rep_forms.specs.FormLaws.{forms, named_is_form, length_number, length_numbers, length_zeros}
use Rattle.rep_layout.specs.SuperLaws.{limits_of, rows_fit}
use Rattle.rep_transfer.specs.Shapes.{Shape, shape_of, least_of, IsShape, shape_bytes, shape_fields, shape_form}

shape_fits : (s : Shape) → IsShape s → shape_fields.Fits s
shape_fits s h =
    let limits = limits_of (least_of s) h in (
      (omega (arith, limits.window), (omega (arith, limits.tables), record { size = refl; few = limits.tables; each = rows_fit s.rows limits.pages })),
      rw h refl,
    )

pub shape_is_form : IsForm shape_form
shape_is_form = named_is_form shape_fields _ _ (search forms depth 12) shape_fits (λ s h. refl)

-- a shape takes 35 bytes
pub shape_size : (s : Shape) → IsShape s → length (shape_bytes s) ≡ 35
shape_size s h =
    let limits = limits_of (least_of s) h in
    grind (arith, length_number, length_numbers, length_zeros, length-append, limits.tables)

-- parameters have a shape
pub has_shape : (p : Setting) → is_setting p ≡ true → is_setting (least_of (shape_of p)) ≡ true
has_shape p h = grind (arith, nat_tests)
