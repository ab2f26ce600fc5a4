-- How the one history begins with the parts of a replica, and ends in those of one (this project).
use Rattle.std.specs.Prelude.{◌≡◌, ◌+◌, ◌≤◌, true, false, List, [], ◌++◌, IsTrue}
use Rattle.uuid.specs.Parts.{is_nil_bytes}
use Rattle.rep_types.specs.declared.judged.Judged.{Judged}
use Rattle.rep_types.specs.declared.limits.TheConstants.{MAX_SEQNO, MAX_AHEAD}
use Rattle.rep_disk.specs.declared.disk.Disk.{Ghosts}
use Rattle.rep_cert.specs.Holdings.{Holding}
use Rattle.rep_steps.specs.Nodes.{Node}
use Rattle.rep_engine.specs.Engines.{Engine, facts_of, durable_of}
use Rattle.rep_engine.specs.Checking.{HoldsWindows}
use Rattle.rep_replica.specs.Replicas.{Replica, ArePlaced, IsReplica, facts_of as replica_facts}
use Rattle.rep_replica.specs.Settling.{is_quiet}
use Rattle.rep_replica.specs.Holding.{Holds}
use Rattle.rep_stations.specs.Judging.{Legal, HasJudged}
use Rattle.rep_stations.specs.Taking.{GoesOn, StartsAs, HasTaken}

-- How the parts of a quiet replica stand where they are taken out: the certifier has judged, and the engine has taken, no item since;
-- nothing waits; the windows can be written; and a node that the replica stands for is one that they stand for.
pub record Begins {D : Type 0} (g : Ghosts D) (r : Replica D) : Type 0 where
  pub judged : HasJudged r.certifier.current [] r.certifier.current
  pub windows : HoldsWindows r.certifier.current
  pub taken : HasTaken g r.engine r.certifier.current [] r.engine
  pub waits : r.backlog ≡ []
  pub at : r.certifier.current.delivered ≡ durable_of r.engine.log
  pub stands : (n : Node) → Holds g n r → StartsAs g r.engine r.certifier.current n

-- How the parts stand at the end of a history: it is legal, and each item has a place; the certifier has judged all of it, and is not too
-- far ahead; the engine has taken a front; and unless it was stopped, the others wait.
pub record Ends {D : Type 0} (g : Ghosts D) (first : Engine D) (c : Holding) (items taken waits : List Judged) (r : Replica D) : Type 0 where
  pub whole : items ≡ taken ++ waits
  pub legal : Legal c items
  pub placed : ArePlaced items
  pub windows : HoldsWindows c
  pub judged : HasJudged c items r.certifier.current
  pub near : r.certifier.current.delivered ≤ durable_of r.engine.log + MAX_AHEAD
  pub limit : r.certifier.current.delivered ≤ MAX_SEQNO
  pub undefined : IsTrue (is_nil_bytes first.checkpoint.base.uuid) → items ≡ []
  pub engine : HasTaken g first c taken r.engine
  pub waiting : r.stopped ≡ false → r.backlog ≡ waits

-- The parts of a quiet replica begin a history, and what stands at the end of one is what a replica is put together from, stopped or
-- not. Where it was not stopped, that replica stands for each node that the first parts stood for, with the whole history.
pub record HistoriesLieBetweenReplicas {D : Type 0} (g : Ghosts D) : Type 0 where
  pub begins : (r : Replica D) → IsReplica (facts_of g r.engine) r.backlog r.certifier.current r.stopped → r.stopped ≡ false → is_quiet (replica_facts g r) ≡ true → Begins g r
  pub ends : (first : Engine D) (c : Holding) (items taken waits : List Judged) (r : Replica D) → Ends g first c items taken waits r
      → IsReplica (facts_of g r.engine) r.backlog r.certifier.current r.stopped
  pub stands : (first : Engine D) (c : Holding) (items taken waits : List Judged) (r : Replica D) → Ends g first c items taken waits r → r.stopped ≡ false
      → (n : Node) → StartsAs g first c n → (m : Node) × GoesOn n items m × Holds g m r
