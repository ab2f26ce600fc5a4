use Rattle.rep_checkpoint.proofs.Leaving.{leave_fronts}
use Rattle.rep_checkpoint.proofs.laws.nodes_leave_their_fronts.Goals as goal

pub returns : goal.returns
returns c = leave_fronts c.logs_end_in_their_node.ensures c.nodes_leave_their_ends.ensures
