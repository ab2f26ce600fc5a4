-- The device is asked, and nothing else is done.
use Rattle.std.specs.Prelude.{◌≡◌, ◌⊎◌, None, Some}
use Rattle.rep_disk.specs.declared.disk.Disk.{Ghosts}
use Rattle.rep_disk.specs.Devices.{SameHistory}
use Rattle.rep_steps.specs.Nodes.{Node}
use Rattle.rep_replica.specs.Replicas.{Replica, OnlyItsEngineAsks}
use Rattle.rep_replica.specs.Holding.{Holds}
use Rattle.rep_replica.specs.Episodes.{GaveUp}

-- Nothing was done but that the device was asked: it may have failed, which stops a replica that ran; else the replica stands for what it
-- stood for.
pub record IsAsked {D : Type 0} (g : Ghosts D) (old new : Replica D) : Type 0 where
  pub stays_honest : g.honest old.engine.disk → g.honest new.engine.disk
  pub same : SameHistory g old.engine.disk new.engine.disk
  pub rest : OnlyItsEngineAsks old new
  pub halts : (new.engine.halted ≡ old.engine.halted) ⊎ ((old.engine.halted ≡ None) × (new.engine.halted ≡ Some old.engine.log.phase))
  pub still : (n : Node) → Holds g n old → new.engine.halted ≡ old.engine.halted → Holds g n new

-- So it is a part of a life in which a snapshot is given up before any of it came.
abbrev pub AsksAreGivenUp : {D : Type 0} → Ghosts D → Type 0
AsksAreGivenUp {D} g = (old new : Replica D) → IsAsked g old new → (n : Node) → Holds g n old → GaveUp g n old new
