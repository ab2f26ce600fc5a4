use Rattle.rep_layout.proofs.GoingOn.{go_on}
use Rattle.rep_layout.proofs.laws.windows_go_on.Goals as goal

pub returns : goal.returns
returns c = go_on
