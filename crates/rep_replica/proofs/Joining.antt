-- Runs of a replica one after another are one run.
use Rattle.rep_disk.specs.declared.disk.Disk.{Ghosts}
use Rattle.rep_steps.specs.Joining.{RunsAreJoined as NodesRunsAreJoined}
use Rattle.rep_recover.specs.Meanings.{Means}
use Rattle.rep_replica.specs.Running.{RunsAreJoined}

pub runs_joined : {D : Type 0} (g : Ghosts D) → NodesRunsAreJoined Means → RunsAreJoined g
runs_joined g law = record {
  no_run = λ r n holds. (n, law.no_run (g.history r.engine.disk) n, holds);
  one_run = λ old new e a step n holds.
      let at = step.steps n holds in
      (at.0, law.one_run (g.history old.engine.disk) (g.history new.engine.disk) n at.0 e a holds.node at.1 (step.leaves n holds), at.2);
  both_runs = λ first mid last events answers more told ran ran_on n holds.
      let at = ran n holds in
      let on = ran_on at.0 at.2 in
      (on.0, law.both_runs (g.history first.engine.disk) (g.history mid.engine.disk) (g.history last.engine.disk) n at.0 on.0 events answers more told holds.node at.1 on.1, on.2);
}
