use Rattle.rep_steps.proofs.Following.{nodes_stay}
use Rattle.rep_steps.proofs.laws.nodes_stay_nodes.Goals as goal

pub returns : goal.returns
returns c = nodes_stay c.fronts_are_determined.ensures
