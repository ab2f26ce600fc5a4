-- What a step leaves of a replica that is refused.
use Rattle.std.specs.Prelude.{◌≡◌, ◌≢◌, ◌⊎◌, ℕ, ◌++◌, length, take, drop, Some, Result, Ok, Err}
use Rattle.rep_types.specs.declared.refusal.Refusal.{Refusal}
use Rattle.rep_types.specs.declared.refusal.Refusal.TheVariants.{DiskFault, Corrupt}
use Rattle.rep_types.specs.declared.refusal.Part.TheVariants.{Pages}
use Rattle.rep_disk.specs.Calls.{Rises}
use Rattle.rep_log.specs.Standing.{due_of}
use Rattle.rep_steps.specs.declared.event.Event.{Event}
use Rattle.rep_steps.specs.declared.event.Event.TheVariants.{Log}
use Rattle.rep_steps.specs.declared.answer.Answer.{Answer}
use Rattle.rep_steps.specs.declared.answer.Answer.TheVariants.{Refused}
use Rattle.rep_recover.specs.Accepting.{accepted_in, AddsItems}
use Rattle.rep_recover.specs.Writing.{written_in}
use Rattle.rep_replica.specs.Replicas.{Replica}

-- how many of the items that wait the engine takes next
abbrev pub taken_next : {D : Type 0} → Replica D → ℕ
taken_next r = accepted_in r.engine.log.phase r.engine.block r.backlog

-- The engine took those, with the versions of what they wrote; nothing else changed.
pub record Gathers {D : Type 0} (old new : Replica D) : Type 0 where
  pub versions : AddsItems (take (taken_next old) old.backlog) old.engine.kept new.engine.kept
  pub after :
      new ≡ record old {
        engine = record old.engine { kept = new.engine.kept; block = old.engine.block ++ take (taken_next old) old.backlog };
        backlog = drop (taken_next old) old.backlog;
      }

-- The device failed in the log's write: before it the engine had taken those items, and they stay taken; the log stands as it does
-- behind the write; and the replica is stopped. So all that was delivered still is, and as much is durable.
pub record FailsToLog {D : Type 0} (old new : Replica D) : Type 0 where
  pub mid : Replica D
  pub gathers : Gathers old mid
  pub after :
      new ≡ record mid { engine = record mid.engine { disk = new.engine.disk; log = written_in (due_of mid.engine.log) (length mid.engine.block) mid.engine.log; halted = Some mid.engine.log.phase } }

-- The device failed: in any other call the replica is stopped, and nothing else changed.
abbrev pub LeavesFault : {D : Type 0} → Event → Replica D → Replica D → Type 0
LeavesFault Log old new = FailsToLog old new
LeavesFault e old new = new ≡ record old { engine = record old.engine { disk = new.engine.disk; halted = Some old.engine.log.phase } }

-- Nothing changed, but that the device was asked for a page that is not of its form, or that it failed.
abbrev pub IsLeft : {D : Type 0} → Event → Refusal → Replica D → Replica D → Type 0
IsLeft e r old new = (new ≡ old) ⊎ (((r ≡ Corrupt Pages) × (new ≡ record old { engine = record old.engine { disk = new.engine.disk } })) ⊎ ((r ≡ DiskFault) × LeavesFault e old new))

-- so it is of each step that is refused
abbrev pub RefusesUnchanged : {D : Type 0} → Event → Answer → Replica D → Replica D → Type 0
RefusesUnchanged e (Refused r) old new = IsLeft e r old new
RefusesUnchanged e a old new = Unit {0}

-- A refusal tells the device's fault exactly where there was one: where the count of failures rose.
pub record IsFaultToldBy (old new : ℕ) (e : Refusal) : Type 0 where
  pub fault : e ≡ DiskFault → Rises old new
  pub no_fault : e ≢ DiskFault → new ≡ old

-- so it is of a call, whatever came of it, whose device had failed this often before it and this often behind it
abbrev pub TellsFaults : {T : Type 0} → ℕ → ℕ → Result T Refusal → Type 0
TellsFaults old new (Ok x) = new ≡ old
TellsFaults old new (Err e) = IsFaultToldBy old new e
