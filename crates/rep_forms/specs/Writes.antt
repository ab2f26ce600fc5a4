-- Writes as bytes: the key, and what is put.
use Rattle.std.specs.Prelude.{ℕ, ◌==◌, nat_le, if◌then◌else◌, List, [], ◌∷◌, ◌++◌, length, Option, None, Some, IfSome}
use Rattle.rep_types.specs.declared.value.Write.{Write}
use Rattle.rep_types.specs.declared.limits.TheConstants.{MAX_VALUE}
use Rattle.rep_types.specs.Transactions.{HasShortValue}
use Rattle.rep_forms.specs.Options.{given}
use Rattle.rep_forms.specs.Forms.{Form, AreBytes, part_of, byte, both, ◌⊗◌, via, as_named}
use Rattle.rep_forms.specs.Keys.{KeyFits, key_bytes, key_form}

-- what is written: 0 and 0 for a delete, 1 and the length and the bytes for a put
abbrev pub value_bytes : Option (List ℕ) → List ℕ
value_bytes None = 0 ∷ 0 ∷ []
value_bytes (Some bytes) = 1 ∷ length bytes ∷ bytes

-- the kind of what is written, the length, and the bytes
abbrev pub value_parts : Option (List ℕ) → ℕ × (ℕ × List ℕ)
value_parts None = (0, (0, []))
value_parts (Some bytes) = (1, (length bytes, bytes))

-- what these are: a put has no more bytes than a value
abbrev pub value_of : ℕ → List ℕ → Option (Option (List ℕ))
value_of kind bytes = if kind == 0 then Some None else given (nat_le (length bytes) MAX_VALUE) (Some bytes)

-- its fields, one behind another
abbrev pub value_fields : Form (Option (List ℕ))
value_fields = via (byte ⊗ both byte part_of) value_parts (λ x. value_of x.0 x.1.1)

-- A write's key has its numbers in range, and what is put is a value.
pub record WriteFits (write : Write) : Type 0 where
  pub key : KeyFits write.key
  pub short : HasShortValue write
  pub bytes : IfSome write.value AreBytes

-- a write: its key, and what is put
abbrev pub write_bytes : Write → List ℕ
write_bytes write = key_bytes write.key ++ value_bytes write.value

abbrev pub write_fields : Form Write
write_fields = via (key_form ⊗ value_fields) (λ (write : Write). (write.key, write.value)) (λ x. Some (record { key = x.0; value = x.1 }))

abbrev pub write_form : Form Write
write_form = as_named write_fields WriteFits write_bytes
