-- What a step of the log leaves of the engine.
use Rattle.std.proofs.Common.{◌≡◌, ◌⊎◌, inl, inr, ℕ, ◌≤◌, Bool, true, false, if◌then◌else◌, List, Option, None, Some, Result, Ok, Err, refl, sym, ap, subst, ◌∙◌, arith}
use Rattle.std.specs.Prelude.{is_some, is_ok, IfErr, OnOk, MatchOption, MatchResult}
use Rattle.rep_types.specs.declared.judged.Judged.{Judged}
use Rattle.rep_types.specs.declared.reply.Reply.{Reply}
use Rattle.rep_types.specs.declared.refusal.Refusal.{Refusal}
use Rattle.rep_types.specs.declared.refusal.Part.TheVariants.{Pages}
use Rattle.rep_types.specs.declared.refusal.Refusal.TheVariants.{Corrupt, DiskFault, LogFull, OutOfMemory, Stopped}
use Rattle.rep_disk.specs.declared.disk.Disk.{Ghosts}
use Rattle.rep_log.specs.declared.phase.Phase.{Phase}
use Rattle.rep_cert.specs.Holdings.{Holding}
use Rattle.rep_steps.specs.declared.event.Event.{Event}
use Rattle.rep_steps.specs.declared.event.Event.TheVariants.{Deliver, SetWindow, Log, Sync, Check, Flush, Read}
use Rattle.rep_steps.specs.declared.answer.Answer.{Answer}
use Rattle.rep_steps.specs.declared.answer.Answer.TheVariants.{Gave, Wrote, Began, Synced, Row, Refused}
use Rattle.rep_steps.specs.Standings.{Stage, Off, Toward, Retiring, Flushing, Saving, Ready, SuperFilling, SuperFilled, SuperOpening, Standing, HasGoal, refusal}
use Rattle.rep_steps.specs.Moves.{Found, Moves, Fails, after, answer, base_after}
use Rattle.rep_steps.specs.Nodes.{Node, Steps}
use Rattle.rep_engine.specs.Engines.{Engine, facts_of, durable_of}
use Rattle.rep_engine.specs.Holding.{Holds, wrote, synced}
use Rattle.rep_stations.specs.Taking.{HasTaken, TakenItemsStay, IsAnEngine, IsOfAnEngine}
use Rattle.rep_node.specs.Keeping.{IsFull}

-- ---- the facts

by_refusal : (A : Type 0) (B : Refusal → Type 0) (C : Type 0) (o : Option Refusal) → MatchOption o A B → (A → C) → ((r : Refusal) → B r → C) → C
by_refusal A B C None m done refused = done m
by_refusal A B C (Some r) m done refused = refused r m

-- What an event refuses it refuses for what the facts say, unless memory, the device or a page is to blame.
refused_is : (o : Option Refusal) (A : Type 0) (r : Refusal) (P : Type 0) → MatchOption o A (λ x. (Refused r ≡ Refused x) × P) → (A → ⊥) → o ≡ Some r
refused_is None A r P m none = absurd (none m)
refused_is (Some x) A r P m none = let same : x ≡ r = (let alike : Refused r ≡ Refused x = m.0 in cc) in ap Some same

-- a call was answered, and not refused
abbrev pub is_refusal : Answer → Bool
is_refusal (Gave v) = false
is_refusal Wrote = false
is_refusal (Began position) = false
is_refusal (Synced rs) = false
is_refusal (Row row) = false
is_refusal (Refused r) = true

answered : (a : Answer) (r : Refusal) → is_refusal a ≡ false → a ≡ Refused r → ⊥
answered a r told is = let e : true ≡ false = sym (ap is_refusal is) ∙ told in absurd cc

-- What is durable rises, the base does not fall, and who is answered was not stopped by it.
pub record Rises (s t : Standing) (a : Answer) : Type 0 where
  pub durable : s.durable ≤ t.durable
  pub base : s.base ≤ t.base
  pub stopped : is_refusal a ≡ false → t.stopped ≡ s.stopped

same_rises : (s t : Standing) (a : Answer) → t ≡ s → Rises s t a
same_rises s t a is = subst (λ (u : Standing). Rises s u a) (sym is) (record { durable = omega arith; base = omega arith; stopped = λ _. refl })

-- the goal of a checkpoint is above its base
goal_rises : (base durable start next : ℕ) (stage : Stage) → HasGoal base durable start next stage → base ≤ base_after base stage
goal_rises base durable start next Off h = omega arith
goal_rises base durable start next (Toward goal (Flushing left)) h = omega arith
goal_rises base durable start next (Toward goal Saving) h = omega arith
goal_rises base durable start next (Toward goal Ready) h = omega arith
goal_rises base durable start next (Toward goal SuperFilling) h = omega arith
goal_rises base durable start next (Toward goal SuperFilled) h = omega arith
goal_rises base durable start next (Toward goal SuperOpening) h = let above = h.above in omega (arith, above)
goal_rises base durable start next (Retiring written) h = omega arith

done_rises : (s : Standing) (e : Event) (f : Found) (a : Answer) → IsOfAnEngine e → HasGoal s.base s.durable s.start s.next s.stage → Rises s (after s e f) a
done_rises s (Deliver seqno w) f a own goal = absurd own
done_rises s (SetWindow seqno size source trx) f a own goal = absurd own
done_rises s Log f a own goal = record { durable = omega arith; base = omega arith; stopped = λ _. refl }
done_rises s Sync f a own goal = record { durable = omega arith; base = goal_rises s.base s.durable s.start s.next s.stage goal; stopped = λ _. refl }
done_rises s Check f a own goal = record { durable = omega arith; base = omega arith; stopped = λ _. refl }
done_rises s (Flush page) f a own goal = record { durable = omega arith; base = omega arith; stopped = λ _. refl }
done_rises s (Read key at) f a own goal = record { durable = omega arith; base = omega arith; stopped = λ _. refl }

fails_rises : (s t : Standing) (e : Event) (a : Answer) → Fails s e a t → Rises s t a
fails_rises s t e a (inl h) = same_rises s t a h.2
fails_rises s t e a (inr h) = subst (λ (u : Standing). Rises s u a) (sym h.3) (record { durable = omega arith; base = omega arith; stopped = λ told. absurd (answered a DiskFault told h.1) })

pub moves_rise : (s t : Standing) (e : Event) (a : Answer) → IsOfAnEngine e → HasGoal s.base s.durable s.start s.next s.stage → Moves s e a t → Rises s t a
moves_rise s t e a own goal moves =
    by_refusal _ _ (Rises s t a) (refusal s e) moves
    (λ went. elim went [
      | inl f ↦ subst (λ (u : Standing). Rises s u a) (sym f.2) (done_rises s e f.0 a own goal)
      | inr other ↦ elim other [ inl fails ↦ fails_rises s t e a fails | inr corrupt ↦ same_rises s t a corrupt.2 ]
    ])
    (λ r is. same_rises s t a is.1)

pub refused_so : (s t : Standing) (e : Event) (r : Refusal) → Moves s e (Refused r) t → ((f : Found) → is_refusal (answer s e f) ≡ false) → (r ≡ OutOfMemory → ⊥) → (r ≡ DiskFault → ⊥) → (r ≡ Corrupt Pages → ⊥) → refusal s e ≡ Some r
refused_so s t e r moves answers memory device page = refused_is (refusal s e) _ r (t ≡ s) moves
    (λ went. elim went [
      | inl done ↦ answered (answer s e done.0) r (answers done.0) (sym done.1)
      | inr other ↦ elim other [
        | inl fails ↦ elim fails [ inl m ↦ memory (let is : Refused r ≡ Refused OutOfMemory = m.1 in cc) | inr d ↦ device (let is : Refused r ≡ Refused DiskFault = d.1 in cc) ]
        | inr corrupt ↦ page (let is : Refused r ≡ Refused (Corrupt Pages) = corrupt.1 in cc)
      ]
    ])

-- a log that is full is told by what is refused
full_so : (s t : Standing) → Moves s Log (Refused LogFull) t → refusal s Log ≡ Some LogFull
full_so s t moves = refused_so s t Log LogFull moves (λ f. refl) (λ is. absurd (let e : LogFull ≡ OutOfMemory = is in cc)) (λ is. absurd (let e : LogFull ≡ DiskFault = is in cc)) (λ is. absurd (let e : LogFull ≡ Corrupt Pages = is in cc))

sync_refuses : (stopped : Bool) → (if stopped then Some Stopped else None) ≡ Some LogFull → ⊥
sync_refuses true is = let e : Some Stopped ≡ Some LogFull = is in absurd cc
sync_refuses false is = let e : None ≡ Some LogFull = is in absurd cc

never_full : (s t : Standing) → Moves s Sync (Refused LogFull) t → ⊥
never_full s t moves = sync_refuses s.stopped (refused_so s t Sync LogFull moves (λ f. refl) (λ is. absurd (let e : LogFull ≡ OutOfMemory = is in cc)) (λ is. absurd (let e : LogFull ≡ DiskFault = is in cc)) (λ is. absurd (let e : LogFull ≡ Corrupt Pages = is in cc)))

-- ---- the engine

-- what was answered is no refusal, and one refusal no other
never_told : (u : Unit {0}) → ◌≡◌ {A = Result (Unit {0}) Refusal} (Ok u) (Err LogFull) → ⊥
never_told u is = absurd cc

abbrev refusal_or : Refusal → Result (Unit {0}) Refusal → Refusal
refusal_or d (Ok u) = d
refusal_or d (Err e) = e

same_err : (r e : Refusal) → ◌≡◌ {A = Result (Unit {0}) Refusal} (Err r) (Err e) → r ≡ e
same_err r e is = ap (refusal_or r) is

running : (o : Option Phase) → is_some o ≡ false → o ≡ None
running None e = refl
running (Some p) e = absurd (let never : true ≡ false = e in cc)

module _ {D : Type 0} (g : Ghosts D) where
  -- the base does not fall
  pub base_rises : (old new : Engine D) (e : Event) (a : Answer) → IsOfAnEngine e → IsAnEngine old → Moves (facts_of g old) e a (facts_of g new) → old.checkpoint.base.position ≤ new.checkpoint.base.position
  base_rises old new e a own is moves = (moves_rise (facts_of g old) (facts_of g new) e a own is.goal moves).base

  -- What the log's step leaves: the engine has what it had taken, no less of it is durable, its base is no lower, and it works still where
  -- nothing is refused; and it has changed nothing that is refused by anything but the device.
  pub record Goes (old new : Engine D) (done : Result (Unit {0}) Refusal) : Type 0 where
    pub taken : (first : Engine D) (c : Holding) (items : List Judged) → HasTaken g first c items old → HasTaken g first c items new
    pub rises : durable_of old.log ≤ durable_of new.log
    pub base : old.checkpoint.base.position ≤ new.checkpoint.base.position
    pub works : OnOk done (old.halted ≡ None → new.halted ≡ None)
    pub same : IfErr done (λ e. (e ≡ DiskFault) ⊎ (new ≡ old))
    pub full : done ≡ Err LogFull → IsFull g old

  pub runs_on : (old new : Engine D) (a : Answer) → Rises (facts_of g old) (facts_of g new) a → is_refusal a ≡ false → old.halted ≡ None → new.halted ≡ None
  runs_on old new a h told works = running new.halted (h.stopped told ∙ ap is_some works)

  pub goes_logged : TakenItemsStay g → (old new : Engine D) (done : Result (Unit {0}) Refusal) → IsAnEngine old → Moves (facts_of g old) Log (wrote done) (facts_of g new)
      → ((n : Node) → Holds g n old → (m : Node) × Steps n Log (wrote done) m × Holds g m new) → IfErr done (λ e. (e ≡ DiskFault) ⊎ (new ≡ old)) → Goes old new done
  goes_logged laws old new (Ok u) is moves steps same = let h = moves_rise (facts_of g old) (facts_of g new) Log Wrote tt is.goal moves in record {
    taken = laws.step old new Log Wrote tt is moves steps;
    rises = h.durable;
    base = h.base;
    works = runs_on old new Wrote h refl;
    same = same;
    full = λ told. absurd (never_told u told);
  }
  goes_logged laws old new (Err r) is moves steps same = let h = moves_rise (facts_of g old) (facts_of g new) Log (Refused r) tt is.goal moves in record {
    taken = laws.step old new Log (Refused r) tt is moves steps;
    rises = h.durable;
    base = h.base;
    works = tt;
    same = same;
    full = λ told. full_so (facts_of g old) (facts_of g new) (subst (λ (e : Refusal). Moves (facts_of g old) Log (Refused e) (facts_of g new)) (same_err r LogFull told) moves);
  }

  -- the same of a sync, whose replies are let go
  pub goes_synced : TakenItemsStay g → (old new : Engine D) (told : Result (List Reply) Refusal) (done : Result (Unit {0}) Refusal) (P : List Reply → Type 0) → is_ok done ≡ is_ok told → MatchResult told P (λ e. done ≡ Err e) → IsAnEngine old
      → Moves (facts_of g old) Sync (synced told) (facts_of g new) → ((n : Node) → Holds g n old → (m : Node) × Steps n Sync (synced told) m × Holds g m new)
      → IfErr told (λ e. (e ≡ DiskFault) ⊎ (new ≡ old)) → Goes old new done
  goes_synced laws old new (Ok rs) (Ok u) P ok err is moves steps same = let h = moves_rise (facts_of g old) (facts_of g new) Sync (Synced rs) tt is.goal moves in record {
    taken = laws.step old new Sync (Synced rs) tt is moves steps;
    rises = h.durable;
    base = h.base;
    works = runs_on old new (Synced rs) h refl;
    same = same;
    full = λ told. absurd (never_told u told);
  }
  goes_synced laws old new (Ok rs) (Err r) P ok err is moves steps same = absurd (let e : false ≡ true = ok in cc)
  goes_synced laws old new (Err r) (Ok u) P ok err is moves steps same = absurd (let e : true ≡ false = ok in cc)
  goes_synced laws old new (Err r) (Err e) P ok err is moves steps same = let h = moves_rise (facts_of g old) (facts_of g new) Sync (Refused r) tt is.goal moves in record {
    taken = laws.step old new Sync (Refused r) tt is moves steps;
    rises = h.durable;
    base = h.base;
    works = tt;
    same = subst (λ (d : Result (Unit {0}) Refusal). IfErr d (λ e. (e ≡ DiskFault) ⊎ (new ≡ old))) (sym err) same;
    full = λ told. absurd (never_full (facts_of g old) (facts_of g new) (subst (λ (x : Refusal). Moves (facts_of g old) Sync (Refused x) (facts_of g new)) (same_err r LogFull (sym err ∙ told)) moves));
  }

  -- ---- the same with an answer that says nothing of a step that was not due

  not_the_device : (old new : Engine D) (r : Refusal) → (r ≡ DiskFault → ⊥) → (r ≡ DiskFault) ⊎ (new ≡ old) → new ≡ old
  not_the_device old new r other (inl fault) = absurd (other fault)
  not_the_device old new r other (inr same) = same

  pub goes_working : (old new : Engine D) (done : Result (Unit {0}) Refusal) → Goes old new done → old.halted ≡ None → OnOk done (new.halted ≡ None)
  goes_working old new (Ok u) h works = h.works works
  goes_working old new (Err r) h works = tt

  pub goes_full : (old new : Engine D) (done : Result (Unit {0}) Refusal) → Goes old new done → IfErr done (λ r. r ≡ LogFull → (new ≡ old) × IsFull g old)
  goes_full old new (Ok u) h = tt
  goes_full old new (Err r) h = λ full. (not_the_device old new r (λ fault. let e : LogFull ≡ DiskFault = sym full ∙ fault in absurd cc) h.same, h.full (ap (λ (x : Refusal). Err x) full))
