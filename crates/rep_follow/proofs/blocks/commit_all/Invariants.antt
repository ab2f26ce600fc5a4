use Rattle.std.proofs.Common.{length}
use Rattle.rep_replica.specs.Replicas.{facts_of}
use Rattle.rep_follow.proofs.Telling.{Told}
use Rattle.rep_follow.proofs.blocks.commit_all.Given as goal

-- what was made durable so far is told
abbrev pub invariant-ahead : goal.invariant-ahead
invariant-ahead g l = Told g.D.Disk l.fn.replica l.replica l.fn.counts l.counts (g.W.Sink.contents l.fn.writer) (g.W.Sink.contents l.writer) (g.W.Sink.failed l.fn.writer) (g.W.Sink.failed l.writer)

abbrev pub decreases-ahead : goal.decreases-ahead
decreases-ahead g l = length (facts_of g.D.Disk l.replica).ahead
