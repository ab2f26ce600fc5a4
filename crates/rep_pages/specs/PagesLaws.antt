-- The law of a page's head as bytes.
use Rattle.std.proofs.Common.{refl, append_assoc}
use Rattle.rep_forms.specs.Forms.{IsForm}
use Rattle.rep_forms.specs.FormLaws.{forms, named_is_form}
use Rattle.rep_pages.specs.Pages.{head_fields, head_form}

pub head_is_form : IsForm head_form
head_is_form = named_is_form head_fields _ _ (search forms depth 12) (λ head h. ((h.number, (h.table, (h.row, h.position))), refl)) (λ head h. simp append_assoc)
