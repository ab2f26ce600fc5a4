use Rattle.rep_checkpoint.proofs.Leaving.{leave_ends}
use Rattle.rep_checkpoint.proofs.laws.nodes_leave_their_ends.Goals as goal

pub returns : goal.returns
returns c = leave_ends c.judging_goes_on.ensures c.logs_end_in_their_node.ensures c.the_base_in_every_image.ensures c.the_log_in_every_image.ensures
