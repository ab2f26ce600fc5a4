use Rattle.std.proofs.Common.{◌≡◌, Ok}
use Rattle.rep_log.specs.declared.phase.Phase.TheVariants.{Resting}
use Rattle.rep_replica.specs.Replicas.{facts_of}
use Rattle.rep_replica.specs.Settling.{IsRunning, Works, left_of, Rests}
use Rattle.rep_replica.proofs.replica.Replica.finish_checkpoint.Given as goal

-- the steps so far, none of which was refused
abbrev pub invariant-loop-event : goal.invariant-loop-event
invariant-loop-event g l = record {
  works : Works g.D.Disk l.initial.self l.self (Ok tt);
  running : IsRunning l.self;
  rests : (facts_of g.D.Disk l.initial.self).phase ≡ Resting → Rests (facts_of g.D.Disk l.initial.self) (facts_of g.D.Disk l.self);
}

abbrev pub decreases-loop-event : goal.decreases-loop-event
decreases-loop-event g l = left_of (facts_of g.D.Disk l.self).stage
