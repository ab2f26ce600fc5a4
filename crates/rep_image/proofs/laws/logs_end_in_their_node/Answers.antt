use Rattle.rep_image.proofs.Leaving.{logs_end}
use Rattle.rep_image.proofs.laws.logs_end_in_their_node.Goals as goal

pub returns : goal.returns
returns c = logs_end
