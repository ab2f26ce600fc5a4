use Rattle.test_node.proofs.Running.{learns, learns_nothing}
use Rattle.test_node.proofs.tests.running.Running.keep.Goals as goal
use Rattle.test_node.proofs.tests.running.Running.keep.Goals.{in-Ok, in-Err}

pub invariant_of-result : goal.invariant_of-result
invariant_of-result g c = elim c.match-keep.branch [
  | in-Ok w ↦ learns c.self.inside.node c.self.inside.seat c.keep.new.seat c.self.inside.reader w.learn.new.self c.match-keep.reader _ c.self.invariant c.keep.ensures.lock c.keep.ensures.idle w.learn.ensures.learnt w.reader-is
  | in-Err w ↦ learns_nothing c.self.inside.node c.self.inside.seat c.keep.new.seat c.self.inside.reader c.match-keep.reader c.self.invariant c.keep.ensures.lock c.keep.ensures.idle w.reader-is
]
