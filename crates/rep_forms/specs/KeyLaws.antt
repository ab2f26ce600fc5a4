-- The law of keys as bytes.
use Rattle.std.proofs.Common.{◌≤◌, length, refl, arith}
use Rattle.rep_types.specs.declared.key.Key.{Key}
use Rattle.rep_forms.specs.Forms.{IsForm}
use Rattle.rep_forms.specs.FormLaws.{length_number, forms, named_is_form}
use Rattle.rep_forms.specs.Keys.{key_bytes, key_fields, key_form}

pub key_is_form : IsForm key_form
key_is_form = named_is_form key_fields _ _ (search forms) (λ key h. (h, refl)) (λ key h. refl)

-- a key takes 5 bytes
pub key_short : (key : Key) → length (key_bytes key) ≤ 5
key_short key = omega (arith, length_number 4 key.row)
