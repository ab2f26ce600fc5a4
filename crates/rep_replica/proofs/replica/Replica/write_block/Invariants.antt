use Rattle.rep_replica.specs.Settling.{work_of}
use Rattle.rep_replica.proofs.Turning.{Came}
use Rattle.rep_replica.proofs.replica.Replica.write_block.Given as goal

-- no reply yet, or the block is durable
abbrev pub invariant-loop-self : goal.invariant-loop-self
invariant-loop-self g l = Came g.D.Disk l.fn.pages l.left l.replies l.fn.self l.self

abbrev pub decreases-loop-self : goal.decreases-loop-self
decreases-loop-self g l = work_of g.D.Disk l.self
