-- The law of a block's head as bytes.
use Rattle.std.proofs.Common.{refl}
use Rattle.rep_forms.specs.Forms.{IsForm}
use Rattle.rep_forms.specs.FormLaws.{number_is_form, both_is_form, via_is_form, named_is_form}
use Rattle.rep_record.specs.Blocks.{head_fields, HeadFits, head_bytes, head_form}

fields_is_form : IsForm head_fields
fields_is_form = search (via_is_form, both_is_form, number_is_form)

pub head_is_form : IsForm head_form
head_is_form = named_is_form head_fields HeadFits head_bytes fields_is_form (λ head h. ((h.cell, (h.first, h.count)), refl)) (λ head h. refl)
