-- How a node that follows an order ends.
use Rattle.std.specs.Prelude.{◌≡◌, ◌<◌, ◌⊎◌, ℕ, List, length, Option, Result, Ok, Err}
use Rattle.rep_types.specs.declared.refusal.Refusal.{Refusal}
use Rattle.rep_disk.specs.declared.disk.Disk.{Ghosts}
use Rattle.rep_log.specs.declared.phase.Phase.TheVariants.{Resting}
use Rattle.rep_replica.specs.Replicas.{Replica, facts_of}
use Rattle.rep_replica.specs.Settling.{Works}
use Rattle.rep_follow.specs.declared.counts.Counts.{Counts}
use Rattle.rep_follow.specs.Committing.{TellsAll}

-- what follows where that ended well
abbrev pub AndSettles : {D : Type 0} → Ghosts D → Result (Unit {0}) Refusal → Replica D → Replica D → Result (Unit {0}) Refusal → Type 0
AndSettles g (Ok x) mid new result = Works g mid new result
AndSettles g (Err e) mid new result = (result ≡ Err e) × (new ≡ mid)

-- All that was delivered became durable, and was told; and where that ended well, the replica took the steps that were due then: those of the
-- checkpoint under way. The counters tell of the first part.
pub record TellsAndSettles {D : Type 0} (g : Ghosts D) (old new : Replica D) (was : Counts) (before after : Option (List ℕ)) (result : Result (Unit {0}) Refusal) : Type 0 where
  pub mid : Replica D
  pub between : Counts
  pub told : Result (Unit {0}) Refusal
  pub tells : TellsAll g old mid was between before after told
  pub settles : AndSettles g told mid new result

-- Something waits, or the log is at rest, as it is behind an opening and behind each call that ended well.
abbrev pub WaitsOrRests : {D : Type 0} → Ghosts D → Replica D → Type 0
WaitsOrRests g r = (0 < length (facts_of g r).ahead) ⊎ ((facts_of g r).phase ≡ Resting)
