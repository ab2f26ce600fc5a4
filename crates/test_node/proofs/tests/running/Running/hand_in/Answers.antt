use Rattle.test_node.proofs.Running.{serves}
use Rattle.test_node.proofs.tests.running.Running.hand_in.Goals as goal

pub invariant_of-result : goal.invariant_of-result
invariant_of-result g c = serves c.self.inside.node c.self.inside.seat c.serve-batch.new.seat c.self.inside.reader c.self.invariant c.serve-batch.ensures.lock c.serve-batch.ensures.handed_in.went
