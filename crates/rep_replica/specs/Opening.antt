-- What opening makes of a device.
use Rattle.std.specs.Prelude.{◌≡◌, ℕ, Bool, false, []}
use Rattle.rep_disk.specs.declared.disk.Disk.{Ghosts}
use Rattle.rep_disk.specs.History.{History, Synced, seen}
use Rattle.rep_steps.specs.Images.{Meaning, opened, OpensTheOrder}
use Rattle.rep_recover.specs.Meanings.{Means}
use Rattle.rep_recover.specs.Starting.{IsStart}
use Rattle.rep_replica.specs.Replicas.{Replica, facts_of}
use Rattle.rep_replica.specs.Holding.{Holds}

-- On any device of this size: a replica of what was found, to which nothing is delivered that isn't durable, and that isn't stopped.
pub record Begins {D : Type 0} (size : ℕ) (r : Replica D) : Type 0 where
  pub start : IsStart size r.engine r.certifier.current
  pub empty : r.backlog ≡ []
  pub running : r.stopped ≡ false

-- On an honest device: it was synced, and nothing else; its bytes mean something; and the replica stands for the node that opening
-- makes of that, which is one of each order that the bytes stand for.
pub record Opens {D : Type 0} (g : Ghosts D) (old : History) (r : Replica D) : Type 0 where
  pub synced : g.history r.engine.disk ≡ Synced old
  pub meaning : Meaning
  pub means : Means (seen old) meaning
  pub gates : ℕ → Bool
  pub opens : OpensTheOrder (facts_of g r) gates meaning
  pub holds : Holds g (opened (facts_of g r) gates meaning) r
