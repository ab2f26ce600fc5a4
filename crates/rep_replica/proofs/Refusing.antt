-- What a refused call of the engine leaves of the replica, and what the bytes decide of it.
use Rattle.std.proofs.Common.{◌≡◌, ◌≢◌, ◌⊎◌, inl, inr, ℕ, true, false, List, length, Option, None, Some, Result, Ok, Err, refl, ap}
use Rattle.std.specs.Prelude.{IfErr}
use Rattle.rep_types.specs.declared.key.Key.{Key}
use Rattle.rep_types.specs.declared.reply.Reply.{Reply}
use Rattle.rep_types.specs.declared.refusal.Refusal.{Refusal}
use Rattle.rep_types.specs.declared.refusal.Refusal.TheVariants.{Stopped, OutOfMemory, DiskFault, Corrupt}
use Rattle.rep_types.specs.declared.refusal.Part.TheVariants.{Pages}
use Rattle.rep_disk.specs.declared.disk.Disk.{Ghosts}
use Rattle.rep_log.specs.Standing.{due_of}
use Rattle.rep_steps.specs.declared.event.Event.{Event}
use Rattle.rep_steps.specs.declared.event.Event.TheVariants.{Deliver, SetWindow, Log, Sync, Check, Flush, Read}
use Rattle.rep_steps.specs.declared.answer.Answer.TheVariants.{Wrote, Refused}
use Rattle.rep_steps.specs.Standings.{Standing, refusal}
use Rattle.rep_steps.specs.Moves.{Moves, Fails, MeetsCorruption}
use Rattle.rep_recover.specs.Engines.{Engine, facts_of as engine_facts, Halts}
use Rattle.rep_recover.specs.Holding.{wrote, synced, row}
use Rattle.rep_recover.specs.Checking.{checked}
use Rattle.rep_recover.specs.Writing.{written_in}
use Rattle.rep_replica.specs.Replicas.{Replica}
use Rattle.rep_replica.specs.Refusing.{Gathers, LeavesFault, IsLeft, RefusesUnchanged}
use Rattle.rep_replica.specs.Spelling.{FlushIsSpelled, ReadIsSpelled, Spells}
use Rattle.rep_replica.proofs.Settling.{Went, went_by}

-- ---- what is left, by what a call came to

pub left_by_wrote : {D : Type 0} (e : Event) (old new : Replica D) (result : Result (Unit {0}) Refusal) → IfErr result (λ r. IsLeft e r old new) → RefusesUnchanged e (wrote result) old new
left_by_wrote e old new (Ok x) left = tt
left_by_wrote e old new (Err r) left = left

pub left_by_synced : {D : Type 0} (e : Event) (old new : Replica D) (result : Result (List Reply) Refusal) → IfErr result (λ r. IsLeft e r old new) → RefusesUnchanged e (synced result) old new
left_by_synced e old new (Ok x) left = tt
left_by_synced e old new (Err r) left = left

pub left_by_checked : {D : Type 0} (e : Event) (old new : Replica D) (result : Result (Option ℕ) Refusal) → IfErr result (λ r. IsLeft e r old new) → RefusesUnchanged e (checked result) old new
left_by_checked e old new (Ok (Some position)) left = tt
left_by_checked e old new (Ok None) left = tt
left_by_checked e old new (Err r) left = left

pub left_by_row : {D : Type 0} (e : Event) (old new : Replica D) (result : Result (Option (List ℕ)) Refusal) → IfErr result (λ r. IsLeft e r old new) → RefusesUnchanged e (row result) old new
left_by_row e old new (Ok x) left = tt
left_by_row e old new (Err r) left = left

-- ---- what the engine leaves, the replica around it does

-- The engine after a refused call, as its clauses have it: as it was, or asked for a page in vain, or stopped by its device.
abbrev pub Faults : {D : Type 0} → Engine D → Engine D → Refusal → Type 0
Faults old new r = r ≡ DiskFault → Halts old new

abbrev pub Stays : {D : Type 0} → Engine D → Engine D → Refusal → Type 0
Stays old new r = (r ≡ DiskFault) ⊎ (new ≡ old)

abbrev pub StaysOrAsks : {D : Type 0} → Engine D → Engine D → Refusal → Type 0
StaysOrAsks old new r = (r ≡ DiskFault) ⊎ (((r ≡ Corrupt Pages) × (new ≡ record old { disk = new.disk })) ⊎ (new ≡ old))

module _ {D : Type 0} (e : Event) (old : Replica D) (engine : Engine D)
    (fault : record old { engine = engine } ≡ record old { engine = record old.engine { disk = engine.disk; halted = Some old.engine.log.phase } } → LeavesFault e old (record old { engine = engine })) where
  around : (x : Engine D) → engine ≡ x → record old { engine = engine } ≡ record old { engine = x }
  around x is = ap (λ (y : Engine D). record old { engine = y }) is

  left : (r : Refusal) → StaysOrAsks old.engine engine r → Faults old.engine engine r → IsLeft e r old (record old { engine = engine })
  left r (inl failed) faults = inr (inr (failed, fault (around _ (faults failed))))
  left r (inr (inl (corrupt, asked))) faults = inr (inl (corrupt, around _ asked))
  left r (inr (inr same)) faults = inl (around old.engine same)

  pub asked_left : {T : Type 0} (result : Result T Refusal) → IfErr result (StaysOrAsks old.engine engine) → IfErr result (Faults old.engine engine) → IfErr result (λ r. IsLeft e r old (record old { engine = engine }))
  asked_left (Ok x) stays faults = tt
  asked_left (Err r) stays faults = left r stays faults

  three : (r : Refusal) → Stays old.engine engine r → StaysOrAsks old.engine engine r
  three r (inl failed) = inl failed
  three r (inr same) = inr (inr same)

  pub refused_left : {T : Type 0} (result : Result T Refusal) → IfErr result (Stays old.engine engine) → IfErr result (Faults old.engine engine) → IfErr result (λ r. IsLeft e r old (record old { engine = engine }))
  refused_left (Ok x) stays faults = tt
  refused_left (Err r) stays faults = left r (three r stays) faults

-- ---- the log, where the engine took items before

abbrev FaultsInLog : {D : Type 0} → Engine D → Engine D → Refusal → Type 0
FaultsInLog old new r = r ≡ DiskFault → new ≡ record old { disk = new.disk; log = written_in (due_of old.log) (length old.block) old.log; halted = Some old.log.phase }

-- where nothing refuses it and it wants no memory, only the device does
only_the_device : (s t : Standing) (r : Refusal) → refusal s Log ≡ None → Moves s Log (Refused r) t → r ≢ OutOfMemory → r ≡ DiskFault
only_the_device s t r none m fed = by (went_by s t Log (Refused r) none m)
  where
    by : Went s Log (Refused r) t ⊎ (Fails s Log (Refused r) t ⊎ MeetsCorruption s Log (Refused r) t) → r ≡ DiskFault
    by (inl (f, is, then)) = absurd (let never : Refused r ≡ Wrote = is in cc)
    by (inr (inl (inl (memory, is, same)))) = absurd (fed (let hungry : Refused r ≡ Refused OutOfMemory = is in cc))
    by (inr (inl (inr (device, is, rises, stopped)))) = let failed : Refused r ≡ Refused DiskFault = is in cc
    by (inr (inr (page, is, same))) = absurd (let never : false ≡ true = page in cc)

module _ {D : Type 0} (g : Ghosts D) (old mid : Replica D) (gathers : Gathers old mid) (engine : Engine D) (none : refusal (engine_facts g mid.engine) Log ≡ None) where
  pub log_left : (result : Result (Unit {0}) Refusal) → Moves (engine_facts g mid.engine) Log (wrote result) (engine_facts g engine) → IfErr result (λ r. r ≢ OutOfMemory)
      → IfErr result (FaultsInLog mid.engine engine) → RefusesUnchanged Log (wrote result) old (record mid { engine = engine })
  log_left (Ok x) moves fed faults = tt
  log_left (Err r) moves fed faults =
      let failed = only_the_device (engine_facts g mid.engine) (engine_facts g engine) r none moves fed in
      inr (inr (failed, record { mid = mid; gathers = gathers; after = ap (λ (x : Engine D). record mid { engine = x }) (faults failed) }))

-- ---- what the bytes decide

module _ {D : Type 0} (g : Ghosts D) where
  pub flush_spells : (page : ℕ) (old new : Replica D) (result : Result (Unit {0}) Refusal) → FlushIsSpelled g page old new result → Spells g old (Flush page) (wrote result) new
  flush_spells page old new (Ok x) spelled = spelled
  flush_spells page old new (Err r) spelled = spelled

  pub read_spells : (key : Key) (s : ℕ) (old new : Replica D) (result : Result (Option (List ℕ)) Refusal) → ReadIsSpelled g key s old result → Spells g old (Read key s) (row result) new
  read_spells key s old new (Ok x) spelled = spelled
  read_spells key s old new (Err r) spelled = spelled

  -- where it is stopped no page is asked for
  pub stopped_read : (r : Replica D) (key : Key) (s : ℕ) → ReadIsSpelled g key s r (Err Stopped)
  stopped_read r key s on = record {
    newest = tt;
    row = λ base. tt;
    bad = λ base bad. refl;
    corrupt = λ is. absurd cc;
  }

  stopped_flush : (r : Replica D) (page : ℕ) → FlushIsSpelled g page r r (Err Stopped)
  stopped_flush r page on = record { done = tt; bad = λ bad. refl; corrupt = λ is. absurd cc }

  pub spells_stopped : (r : Replica D) (e : Event) → Spells g r e (Refused Stopped) r
  spells_stopped r (Deliver seqno w) = tt
  spells_stopped r (SetWindow seqno size source trx) = tt
  spells_stopped r Log = tt
  spells_stopped r Sync = tt
  spells_stopped r Check = tt
  spells_stopped r (Flush page) = stopped_flush r page
  spells_stopped r (Read key s) = stopped_read r key s
