-- Keys as bytes: the table, and the row.
use Rattle.std.specs.Prelude.{ℕ, ◌^◌, ◌<◌, List, ◌∷◌, Some}
use Rattle.rep_types.specs.declared.key.Key.{Key}
use Rattle.rep_forms.specs.Forms.{Form, byte, number, number_bytes, ◌⊗◌, via, as_named}

-- a key's numbers are in the range of their types
abbrev pub KeyFits : Key → Type 0
KeyFits key = (key.table < 2 ^ 8) × (key.row < 2 ^ 32)

-- a key: its table in 1 byte, and its row in 4
abbrev pub key_bytes : Key → List ℕ
key_bytes key = key.table ∷ number_bytes 4 key.row

-- its fields, one behind another
abbrev pub key_fields : Form Key
key_fields = via (byte ⊗ number 4) (λ (key : Key). (key.table, key.row)) (λ x. Some (record { table = x.0; row = x.1 }))

abbrev pub key_form : Form Key
key_form = as_named key_fields KeyFits key_bytes
