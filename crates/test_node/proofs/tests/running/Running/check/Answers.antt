use Rattle.test_node.proofs.Running.{learns, learns_nothing}
use Rattle.test_node.proofs.tests.running.Running.check.Goals as goal
use Rattle.test_node.proofs.tests.running.Running.check.Goals.{in-Ok, in-Err}

pub invariant_of-result : goal.invariant_of-result
invariant_of-result g c = elim c.match-check_run.branch [
  | in-Ok w ↦ learns c.self.inside.node c.self.inside.seat c.check_run.new.seat c.self.inside.reader w.learn.new.self c.match-check_run.reader _ c.self.invariant c.check_run.ensures.lock c.check_run.ensures.idle w.learn.ensures.learnt w.reader-is
  | in-Err w ↦ learns_nothing c.self.inside.node c.self.inside.seat c.check_run.new.seat c.self.inside.reader c.match-check_run.reader c.self.invariant c.check_run.ensures.lock c.check_run.ensures.idle w.reader-is
]
