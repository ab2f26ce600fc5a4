use Rattle.test_node.proofs.Running.{halts}
use Rattle.test_node.proofs.tests.running.Running.halt.Goals as goal

pub invariant_of-result : goal.invariant_of-result
invariant_of-result g c = halts c.self.inside.node c.self.inside.seat c.halt.new.seat c.self.inside.reader c.self.invariant c.halt.ensures.lock c.halt.ensures.later
