use Rattle.std.proofs.Common.{◌∙◌, List, ap, sym, length}
use Rattle.rep_forms.proofs.Chains.{values_left}
use Rattle.rep_forms.proofs.run.Run.len.Goals as goal

pub returns : goal.returns
returns g c = sym (values_left g.T.Form.form.read c.self.inside.left c.self.inside.rest.now c.self.invariant) ∙ ap (λ (xs : List g.row.T.Denot). length xs) c.self.view_is
