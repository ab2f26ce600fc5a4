use Rattle.std.proofs.Common.{◌≡◌, ◌-◌, None}
use Rattle.rep_types.specs.declared.limits.TheConstants.{MAX_SEQNO}
use Rattle.rep_layout.specs.Supers.{IsNil}
use Rattle.rep_steps.specs.Standings.{delivered}
use Rattle.rep_replica.specs.Replicas.{facts_of}
use Rattle.rep_replica.specs.Settling.{IsRunning}
use Rattle.rep_catchup.specs.Joining.{Followed}
use Rattle.rep_catchup.proofs.joining.follow.Given as goal

-- the records so far were taken
abbrev pub invariant-loop-part : goal.invariant-loop-part
invariant-loop-part g l = record {
  running : IsRunning l.replica;
  same : g.D.Disk.failures l.replica.engine.disk ≡ g.D.Disk.failures l.initial.replica.engine.disk;
  noted : g.R.Source.failed l.reader ≡ g.R.Source.failed l.initial.reader;
  defined : IsNil (facts_of g.D.Disk l.replica).uuid → ⊥;
  followed : Followed g.D.Disk l.initial.replica l.replica l.initial.transfer l.transfer (g.R.Source.remaining l.initial.reader) (g.R.Source.remaining l.reader) None;
}

abbrev pub decreases-loop-part : goal.decreases-loop-part
decreases-loop-part g l = MAX_SEQNO - delivered (facts_of g.D.Disk l.replica)
