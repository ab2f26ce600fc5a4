-- The law of a window's head as bytes.
use Rattle.std.proofs.Common.{refl, append_assoc}
use Rattle.rep_forms.specs.Forms.{IsForm}
use Rattle.rep_forms.specs.FormLaws.{forms, named_is_form}
use Rattle.rep_layout.specs.FormatLaws.{format_is_form}
use Rattle.rep_layout.specs.Windows.{head_fields, head_form}

pub head_is_form : IsForm head_form
head_is_form = named_is_form head_fields _ _ (search (forms, format_is_form) depth 14) (λ head h. ((tt, (h.number, (h.position, (h.count, (h.size, h.floor))))), refl)) (λ head h. simp append_assoc)
