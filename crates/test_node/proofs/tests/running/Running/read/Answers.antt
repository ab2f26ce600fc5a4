use Rattle.test_node.proofs.Running.{reads}
use Rattle.test_node.proofs.tests.running.Running.read.Goals as goal

pub invariant_of-result : goal.invariant_of-result
invariant_of-result g c = reads c.self.inside.node c.self.inside.seat c.read-reader.new.seat c.self.inside.reader c.read-reader.result.0 c.self.invariant c.read-reader.ensures.lock c.read-reader.ensures.idle c.read-reader.ensures.same
