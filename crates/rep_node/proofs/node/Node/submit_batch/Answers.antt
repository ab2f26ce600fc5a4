use Rattle.std.proofs.Common.{refl}
use Rattle.rep_node.proofs.node.Node.submit_batch.Goals as goal

pub returns-clause-goes : goal.returns-clause-goes
returns-clause-goes g c = c.hand_in.ensures.kept refl
