use Rattle.rep_steps.proofs.Placing.{verdicts_placed}
use Rattle.rep_steps.proofs.laws.verdicts_have_a_place.Goals as goal

pub returns : goal.returns
returns c = verdicts_placed
