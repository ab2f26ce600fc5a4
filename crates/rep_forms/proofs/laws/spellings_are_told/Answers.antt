use Rattle.rep_forms.proofs.Chains.{told}
use Rattle.rep_forms.proofs.laws.spellings_are_told.Goals as goal

pub returns : goal.returns
returns g c = told g.T.Form.form g.met.T.Form.is_form
