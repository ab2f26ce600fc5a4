use Rattle.rep_steps.proofs.Following.{outlasts}
use Rattle.rep_steps.proofs.laws.nodes_outlast_failures.Goals as goal

pub returns : goal.returns
returns c = outlasts
