use Rattle.rep_forms.specs.Forms.{many}
use Rattle.rep_forms.specs.FormLaws.{many_is_form}
use Rattle.rep_forms.proofs.Chains.{told}
use Rattle.rep_forms.proofs.laws.runs_are_told.Goals as goal

pub returns : goal.returns
returns g c = λ n. told (many n n g.T.Form.form) (many_is_form n n g.T.Form.form g.met.T.Form.is_form)
