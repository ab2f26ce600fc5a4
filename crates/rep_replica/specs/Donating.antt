-- What a donor reads of a replica for a joiner: the base's window and pages, and the durable blocks behind it.
use Rattle.std.specs.Prelude.{◌≡◌, ◌⊎◌, ◌||◌, true, false, is_some, Result, Err, IfErr}
use Rattle.rep_types.specs.declared.refusal.Refusal.{Refusal}
use Rattle.rep_types.specs.declared.refusal.Refusal.TheVariants.{Stopped, DiskFault, Corrupt}
use Rattle.rep_types.specs.declared.refusal.Part.{Part}
use Rattle.rep_disk.specs.declared.disk.Disk.{Ghosts}
use Rattle.rep_disk.specs.Devices.{Calls, SameHistory}
use Rattle.rep_log.specs.Moves.{fault_of}
use Rattle.rep_recover.specs.Reading.{halted_by}
use Rattle.rep_replica.specs.Replicas.{Replica, OnlyItsEngineAsks}

-- The device is asked, and nothing else changes but whether the replica is stopped: one that is stopped, from outside or by its device,
-- refuses and stays as it is, and one that the device fails is stopped. What isn't of its form is refused as corrupt.
pub record Asks {D T : Type 0} (g : Ghosts D) (part : Part) (old new : Replica D) (result : Result T Refusal) : Type 0 where
  pub call : Calls g old.engine.disk new.engine.disk (fault_of result)
  pub same : SameHistory g old.engine.disk new.engine.disk
  pub rest : OnlyItsEngineAsks old new
  pub stopped : (old.stopped || is_some old.engine.halted) ≡ true → (result ≡ Err Stopped) × (new ≡ old)
  pub running : (old.stopped || is_some old.engine.halted) ≡ false → (new.engine.halted ≡ halted_by old.engine.log.phase result) × IfErr result (λ e. (e ≡ DiskFault) ⊎ (e ≡ Corrupt part))
