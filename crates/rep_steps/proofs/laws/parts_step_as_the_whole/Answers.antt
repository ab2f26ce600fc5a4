use Rattle.rep_steps.proofs.Parts.{parts_step}
use Rattle.rep_steps.proofs.laws.parts_step_as_the_whole.Goals as goal

pub returns : goal.returns
returns c = parts_step
