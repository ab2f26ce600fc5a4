use Rattle.std.proofs.Common.{rules}
use Rattle.rep_forms.proofs.form.read_front.Goals as goal

pub returns : goal.returns
returns c = search rules
