use Rattle.rep_checkpoint.proofs.Arriving.{make_the_node}
use Rattle.rep_checkpoint.proofs.laws.installations_make_the_node.Goals as goal

pub returns : goal.returns
returns c = make_the_node c.installations_settle.ensures
