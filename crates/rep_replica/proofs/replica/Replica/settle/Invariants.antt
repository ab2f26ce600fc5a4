use Rattle.std.proofs.Common.{◌≡◌, Ok}
use Rattle.rep_steps.specs.Standings.{Off}
use Rattle.rep_replica.specs.Replicas.{facts_of}
use Rattle.rep_replica.specs.Settling.{IsRunning, Works, work_of}
use Rattle.rep_replica.proofs.replica.Replica.settle.Given as goal

-- the steps so far, none of which was refused, and no checkpoint is under way
abbrev pub invariant-loop-self : goal.invariant-loop-self
invariant-loop-self g l = record {
  works : Works g.D.Disk l.fn.self l.self (Ok tt);
  running : IsRunning l.self;
  off : (facts_of g.D.Disk l.self).stage ≡ Off;
}

abbrev pub decreases-loop-self : goal.decreases-loop-self
decreases-loop-self g l = work_of g.D.Disk l.self
