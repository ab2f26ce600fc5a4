-- The law of entries as bytes.
use Rattle.std.proofs.Common.{◌∷◌, length, ◌≤◌, ◌*◌, refl, arith, length-append}
use Rattle.std.specs.List.{flat_map}
use Rattle.rep_types.specs.Entries.{Entry}
use Rattle.rep_forms.specs.Forms.{IsForm, number_bytes}
use Rattle.rep_forms.specs.FormLaws.{length_number, run_short, forms, named_is_form}
use Rattle.rep_forms.specs.Keys.{KeyFits, key_bytes}
use Rattle.rep_forms.specs.KeyLaws.{key_is_form, key_short}
use Rattle.rep_forms.specs.Entries.{EntryFits, entry_bytes, entry_fields, entry_form}

pub entry_is_form : IsForm entry_form
entry_is_form = named_is_form entry_fields _ _ (search (forms, key_is_form)) (λ e h. ((h.seqno, (omega (arith, h.few), record { size = refl; few = h.few; each = h.keys })), refl)) (λ e h. refl)

-- an entry takes at most 89 bytes
pub entry_short : (e : Entry) → EntryFits e → length (entry_bytes e) ≤ 89
entry_short e h =
    let keys : length (flat_map key_bytes e.keys) ≤ 5 * length e.keys = run_short key_bytes KeyFits 5 (λ key h. key_short key) e.keys h.keys in
    omega (arith, length_number 8 e.seqno, keys, h.few, length-append (number_bytes 8 e.seqno) (length e.keys ∷ flat_map key_bytes e.keys))
