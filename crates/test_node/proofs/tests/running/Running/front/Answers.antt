use Rattle.test_node.proofs.Running.{looks}
use Rattle.test_node.proofs.tests.running.Running.front.Goals as goal

pub invariant_of-result : goal.invariant_of-result
invariant_of-result g c = let same = c.front-reader.ensures.same in looks c.self.inside.node c.self.inside.seat c.self.inside.reader c.front-reader.result.0 c.self.invariant same.0 same.1 same.2
