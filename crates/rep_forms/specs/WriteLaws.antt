-- The law of writes as bytes.
use Rattle.std.proofs.Common.{◌≡◌, ℕ, ◌≤◌, Option, Some, None, List, length, refl, arith, lit<, length-append}
use Rattle.std.specs.Prelude.{IfSome}
use Rattle.std.proofs.lemmas.Bool.{le-leb}
use Rattle.rep_types.specs.declared.limits.TheConstants.{MAX_VALUE}
use Rattle.rep_types.specs.declared.value.Write.{Write}
use Rattle.rep_types.specs.Transactions.{HasShortValue}
use Rattle.rep_forms.specs.Forms.{IsForm, AreBytes}
use Rattle.rep_forms.specs.FormLaws.{forms, named_is_form}
use Rattle.rep_forms.specs.Keys.{key_bytes}
use Rattle.rep_forms.specs.KeyLaws.{key_is_form, key_short}
use Rattle.rep_forms.specs.Writes.{value_bytes, value_fields, write_bytes, write_fields, write_form}

value_fits : (value : Option (List ℕ)) → IfSome value (λ bytes. length bytes ≤ MAX_VALUE) → IfSome value AreBytes → value_fields.Fits value
value_fits None short bytes = ((lit< tt, (lit< tt, record { size = refl; each = tt })), refl)
value_fits (Some xs) short bytes = ((lit< tt, (omega (arith, short), record { size = refl; each = bytes })), rw (le-leb (length xs) MAX_VALUE short) refl)

value_same : (value : Option (List ℕ)) → value_bytes value ≡ value_fields.spell value
value_same None = refl
value_same (Some bytes) = refl

pub write_is_form : IsForm write_form
write_is_form =
    named_is_form write_fields _ _ (search (forms, key_is_form) depth 9)
    (λ write h. ((h.key, value_fits write.value h.short h.bytes), refl))
    (λ write h. rw (value_same write.value) refl)

-- a write takes at most 69 bytes
value_short : (value : Option (List ℕ)) → IfSome value (λ bytes. length bytes ≤ MAX_VALUE) → length (value_bytes value) ≤ 64
value_short None short = omega arith
value_short (Some bytes) short = omega (arith, short)

pub write_short : (write : Write) → HasShortValue write → length (write_bytes write) ≤ 69
write_short write h = omega (arith, key_short write.key, value_short write.value h, length-append (key_bytes write.key) (value_bytes write.value))
