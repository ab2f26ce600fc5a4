use Rattle.test_node.proofs.Running.{starts}
use Rattle.test_node.proofs.tests.running.Running.start.Goals as goal

pub invariant_of-result : goal.invariant_of-result
invariant_of-result g c = starts g.D.Disk c.in-Ok.node c.in-Ok.seat c.args.replica c.in-Ok.readers.items c.pop.new.self.items c.in-Some.reader _ _ _ c.in-Ok.ensures.lock c.in-Ok.ensures.view c.in-Ok.ensures.starts c.in-Some.ensures.items
