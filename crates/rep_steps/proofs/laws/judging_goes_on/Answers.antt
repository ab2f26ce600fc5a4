use Rattle.rep_steps.proofs.GoingOn.{judging_goes_on}
use Rattle.rep_steps.proofs.laws.judging_goes_on.Goals as goal

pub returns : goal.returns
returns c = judging_goes_on
