-- The law of formats as bytes.
use Rattle.std.proofs.Common.{refl, lit<}
use Rattle.rep_forms.specs.Forms.{IsForm}
use Rattle.rep_forms.specs.FormLaws.{forms, named_is_form}
use Rattle.rep_layout.specs.declared.format.Format.{Format}
use Rattle.rep_layout.specs.declared.format.Format.TheVariants.{One, Two}
use Rattle.rep_layout.specs.Formats.{format_fields, format_form}

format_fits : (format : Format) → format_fields.Fits format
format_fits One = (lit< tt, refl)
format_fits Two = (lit< tt, refl)

pub format_is_form : IsForm format_form
format_is_form = named_is_form format_fields _ _ (search forms) (λ format h. format_fits format) (λ format h. refl)
