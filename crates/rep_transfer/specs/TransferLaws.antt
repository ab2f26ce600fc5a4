-- The laws of what joiners have, of headers and of pieces as bytes.
use Rattle.std.proofs.Common.{refl}
use Rattle.rep_forms.specs.Forms.{IsForm}
use Rattle.rep_forms.specs.FormLaws.{forms, named_is_form}
use Rattle.rep_layout.specs.FormatLaws.{format_is_form}
use Rattle.rep_pages.specs.RowsLaws.{rows_are_form}
use Rattle.rep_transfer.specs.Haves.{have_fields, have_form, header_fields, header_form}
use Rattle.rep_transfer.specs.Pieces.{page_fields, page_form}
use Rattle.rep_transfer.specs.ShapeLaws.{shape_is_form}

pub have_is_form : IsForm have_form
have_is_form = named_is_form have_fields _ _ (search (forms, shape_is_form) depth 12) (λ have h. ((h.uuid, (h.position, h.shape)), refl)) (λ have h. refl)

pub header_is_form : IsForm header_form
header_is_form = named_is_form header_fields _ _ (search (forms, format_is_form, shape_is_form) depth 13) (λ header h. ((tt, (h.uuid, h.shape)), refl)) (λ header h. refl)

pub page_is_form : IsForm page_form
page_is_form = named_is_form page_fields _ _ (search (forms, rows_are_form) depth 9) (λ page h. ((h.number, h.rows), refl)) (λ page h. refl)
