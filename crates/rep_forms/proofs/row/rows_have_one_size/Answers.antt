use Rattle.rep_forms.specs.FormLaws.{run_size}
use Rattle.rep_forms.specs.Rows.{RowFits, row_bytes}
use Rattle.rep_forms.specs.RowLaws.{row_size}
use Rattle.rep_forms.proofs.row.rows_have_one_size.Goals as goal

pub returns : goal.returns
returns c = record { one = row_size; run = run_size row_bytes RowFits 64 row_size }
