-- The law of the rows of a page as bytes.
use Rattle.rep_forms.specs.Forms.{IsForm}
use Rattle.rep_forms.specs.FormLaws.{forms}
use Rattle.rep_forms.specs.RowLaws.{row_is_form}
use Rattle.rep_pages.specs.Rows.{rows_form}

pub rows_are_form : IsForm rows_form
rows_are_form = search (forms, row_is_form)
