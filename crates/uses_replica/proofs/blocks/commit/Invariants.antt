use Rattle.std.proofs.Common.{length}
use Rattle.rep_replica.specs.Replicas.{facts_of}
use Rattle.uses_replica.proofs.Committing.{Came}
use Rattle.uses_replica.proofs.blocks.commit.Given as goal

-- the blocks so far
abbrev pub invariant-loop-replica : goal.invariant-loop-replica
invariant-loop-replica g l = Came g.D.Disk l.fn.replica l.replica

abbrev pub decreases-loop-replica : goal.decreases-loop-replica
decreases-loop-replica g l = length (facts_of g.D.Disk l.replica).ahead
