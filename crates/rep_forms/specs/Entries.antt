-- Entries of a window as bytes: the seqno, how many keys there are, and the keys.
use Rattle.std.specs.Prelude.{ℕ, ◌^◌, ◌<◌, ◌≤◌, List, ◌∷◌, ◌++◌, length, Some}
use Rattle.std.specs.List.{flat_map, AllByRecursion}
use Rattle.rep_types.specs.declared.limits.TheConstants.{MAX_WRITES}
use Rattle.rep_types.specs.Entries.{Entry}
use Rattle.rep_forms.specs.Forms.{Form, byte, number, number_bytes, both, ◌⊗◌, many, via, as_named}
use Rattle.rep_forms.specs.Keys.{KeyFits, key_bytes, key_form}

-- An entry's seqno is in its range, and there are no more keys than a write set writes.
pub record EntryFits (e : Entry) : Type 0 where
  pub seqno : e.seqno < 2 ^ 64
  pub few : length e.keys ≤ MAX_WRITES
  pub keys : AllByRecursion KeyFits e.keys

-- an entry: the seqno, how many keys there are, and the keys
abbrev pub entry_bytes : Entry → List ℕ
entry_bytes e = number_bytes 8 e.seqno ++ (length e.keys ∷ flat_map key_bytes e.keys)

abbrev pub entry_fields : Form Entry
entry_fields = via (number 8 ⊗ both byte (λ n. many MAX_WRITES n key_form)) (λ (e : Entry). (e.seqno, (length e.keys, e.keys))) (λ x. Some (record { seqno = x.0; keys = x.1.1 }))

abbrev pub entry_form : Form Entry
entry_form = as_named entry_fields EntryFits entry_bytes
