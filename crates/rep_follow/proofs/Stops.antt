-- Who is told that the replica is stopped.
use Rattle.std.proofs.Common.{◌≡◌, ◌⊎◌, inl, inr, ℕ, ◌+◌, Bool, true, false, List, [], ◌∷◌, ◌++◌, length, Option, None, Some, Result, Ok, Err, refl, sym, ap, ◌∙◌, subst}
use Rattle.std.specs.Prelude.{MatchOption, IfErr, ◌==◌, nat_le, nat_lt, not, if◌then◌else◌}
use Rattle.std.specs.List.{list_any}
use Rattle.uuid.specs.Parts.{is_nil_bytes}
use Rattle.rep_types.specs.declared.limits.TheConstants.{MAX_SEQNO, MAX_AHEAD}
use Rattle.rep_types.specs.Settings.{has_row}
use Rattle.rep_types.specs.declared.item.Item.{Item}
use Rattle.rep_steps.specs.Events.{delivery}
use Rattle.rep_types.specs.declared.refusal.Refusal.{Refusal}
use Rattle.rep_types.specs.declared.refusal.Refusal.TheVariants.{StreamFault, Stopped, OutOfOrder, Backlogged, LogFull, NotDue, TooOld, NotYet, BadKey, Undefined, Exhausted, OutOfMemory, DiskFault, Corrupt}
use Rattle.rep_types.specs.declared.refusal.Part.TheVariants.{Pages}
use Rattle.rep_disk.specs.declared.disk.Disk.{Ghosts}
use Rattle.rep_log.specs.declared.phase.Phase.{Phase}
use Rattle.rep_log.specs.declared.phase.Phase.TheVariants.{Resting, Closing, Filling, Filled, Opening}
use Rattle.rep_steps.specs.declared.event.Event.{Event}
use Rattle.rep_steps.specs.declared.event.Event.TheVariants.{Deliver, SetWindow, Log, Sync, Check, Flush, Read}
use Rattle.rep_steps.specs.declared.answer.Answer.{Answer}
use Rattle.rep_steps.specs.declared.answer.Answer.TheVariants.{Refused}
use Rattle.rep_steps.specs.Standings.{Standing, Part, Flushing, Saving, Ready, SuperFilling, SuperFilled, SuperOpening, Stage, Off, Toward, Retiring, refusal, refusal_here, delivered, delivery_refusal, gathered, log_refusal, part_refusal, check_refusal, flush_refusal}
use Rattle.rep_steps.specs.Moves.{Found, Fails, MeetsCorruption, answer, after, check_answer}
use Rattle.rep_steps.specs.Runs.{Runs as RunsBy}
use Rattle.rep_replica.specs.Replicas.{Replica, facts_of}
use Rattle.rep_replica.specs.Settling.{Allows, EndsEarly, WorksBy, Works, IsNext}
use Rattle.rep_replica.specs.Committing.{Commits as CommitsBlock}
use Rattle.rep_follow.specs.Committing.{IsHeldUp}
use Rattle.rep_follow.specs.Taking.{IsNotTaken}

-- ---- no rule of a running replica says so

is_stop : Option Refusal → Bool
is_stop (Some Stopped) = true
is_stop o = false

delivery_by : (nil all out full : Bool) (expected : ℕ)
    → is_stop (if nil then Some Undefined else if all then Some Exhausted else if out then Some (OutOfOrder expected) else if full then Some Backlogged else None) ≡ false
unfolding is_stop
delivery_by true all out full expected = refl
delivery_by false true out full expected = refl
delivery_by false false true full expected = refl
delivery_by false false false true expected = refl
delivery_by false false false false expected = refl

delivery_none : (s : Standing) (seqno : ℕ) → is_stop (delivery_refusal s seqno) ≡ false
delivery_none s seqno = delivery_by (is_nil_bytes s.uuid) (delivered s == MAX_SEQNO) (not (seqno == delivered s + 1)) (nat_le MAX_AHEAD (length s.ahead)) (delivered s + 1)

block_by : (none full : Bool) → is_stop (if none then Some NotDue else if full then Some LogFull else None) ≡ false
unfolding is_stop
block_by true full = refl
block_by false true = refl
block_by false false = refl

log_none : (s : Standing) (phase : Phase) → is_stop (log_refusal s phase) ≡ false
unfolding is_stop
log_none s Resting = block_by (gathered s == 0) (nat_le (s.start + s.setting.cells) s.next)
log_none s Closing = refl
log_none s (Filling k) = refl
log_none s (Filled k) = refl
log_none s (Opening k) = refl

due_by : (not_due : Bool) → is_stop (if not_due then Some NotDue else None) ≡ false
unfolding is_stop
due_by true = refl
due_by false = refl

part_none : (part : Part) → is_stop (part_refusal part) ≡ false
unfolding is_stop
part_none (Flushing []) = refl
part_none (Flushing (page ∷ left)) = refl
part_none Saving = refl
part_none Ready = refl
part_none SuperFilling = refl
part_none SuperFilled = refl
part_none SuperOpening = refl

check_none : (s : Standing) (stage : Stage) → is_stop (check_refusal s stage) ≡ false
unfolding is_stop
check_none s Off = due_by (nat_le s.durable s.base)
check_none s (Toward goal part) = part_none part
check_none s (Retiring written) = due_by written

flush_by : (left : Bool) → is_stop (if left then None else Some NotDue) ≡ false
unfolding is_stop
flush_by true = refl
flush_by false = refl

flush_none : (stage : Stage) (page : ℕ) → is_stop (flush_refusal stage page) ≡ false
unfolding is_stop
flush_none Off page = refl
flush_none (Toward goal (Flushing left)) page = flush_by (list_any (λ (p : ℕ). p == page) left)
flush_none (Toward goal Saving) page = refl
flush_none (Toward goal Ready) page = refl
flush_none (Toward goal SuperFilling) page = refl
flush_none (Toward goal SuperFilled) page = refl
flush_none (Toward goal SuperOpening) page = refl
flush_none (Retiring written) page = refl

read_by : (bad above below : Bool) (durable base : ℕ) → is_stop (if bad then Some BadKey else if above then Some (NotYet durable) else if below then Some (TooOld base) else None) ≡ false
unfolding is_stop
read_by true above below durable base = refl
read_by false true below durable base = refl
read_by false false true durable base = refl
read_by false false false durable base = refl

here_none : (s : Standing) (e : Event) → is_stop (refusal_here s e) ≡ false
unfolding is_stop
here_none s (Deliver seqno w) = delivery_none s seqno
here_none s (SetWindow seqno size source trx) = delivery_none s seqno
here_none s Log = log_none s s.phase
here_none s Sync = refl
here_none s Check = check_none s s.stage
here_none s (Flush page) = flush_none s.stage page
here_none s (Read key at) = read_by (not (has_row s.setting.rows key)) (nat_lt s.durable at) (nat_lt at s.base) s.durable s.base

stopped_by : (stopped : Bool) (here : Option Refusal) → is_stop here ≡ false → (if stopped then Some Stopped else here) ≡ Some Stopped → stopped ≡ true
unfolding is_stop
stopped_by true here none is = refl
stopped_by false here none is = let both : true ≡ false = sym (ap is_stop is) ∙ none in absurd cc

-- ---- a step that is refused so

check_answers : (s : Standing) (stage : Stage) (r : Refusal) → Refused r ≡ check_answer s stage → ⊥
check_answers s Off r is = cc
check_answers s (Toward goal part) r is = cc
check_answers s (Retiring written) r is = cc

never_answered : (s : Standing) (e : Event) (found : Found) (r : Refusal) → Refused r ≡ answer s e found → ⊥
never_answered s (Deliver seqno w) found r is = cc
never_answered s (SetWindow seqno size source trx) found r is = cc
never_answered s Log found r is = cc
never_answered s Sync found r is = cc
never_answered s Check found r is = check_answers s s.stage r is
never_answered s (Flush page) found r is = cc
never_answered s (Read key at) found r is = cc

moved_stopped : (s t : Standing) (e : Event) (o : Option Refusal) → refusal s e ≡ o
    → MatchOption o (((found : Found) × (Refused Stopped ≡ answer s e found) × (t ≡ after s e found)) ⊎ (Fails s e (Refused Stopped) t ⊎ MeetsCorruption s e (Refused Stopped) t)) (λ r. (Refused Stopped ≡ Refused r) × (t ≡ s)) → t.stopped ≡ true
moved_stopped s t e None none (inl went) = absurd (never_answered s e went.0 Stopped went.1)
moved_stopped s t e None none (inr (inl (inl hungry))) = absurd (let never : Refused Stopped ≡ Refused OutOfMemory = hungry.1 in cc)
moved_stopped s t e None none (inr (inl (inr fault))) = absurd (let never : Refused Stopped ≡ Refused DiskFault = fault.1 in cc)
moved_stopped s t e None none (inr (inr corrupt)) = absurd (let never : Refused Stopped ≡ Refused (Corrupt Pages) = corrupt.1 in cc)
moved_stopped s t e (Some r) some refused =
    let one : Refused Stopped ≡ Refused r = refused.0 in
    let same : r ≡ Stopped = cc in
    ap (λ (u : Standing). u.stopped) refused.1 ∙ stopped_by s.stopped (refusal_here s e) (here_none s e) (some ∙ ap Some same)

last_stopped : (rule : Standing → Event → Type 0) (s t : Standing) (events : List Event) (done : List Answer) → RunsBy (Allows rule) s events (done ++ Refused Stopped ∷ []) t → t.stopped ≡ true
last_stopped rule s t [] [] runs = absurd runs
last_stopped rule s t [] (a ∷ done) runs = absurd runs
last_stopped rule s t (e ∷ []) [] runs = ap (λ (u : Standing). u.stopped) (sym runs.2) ∙ moved_stopped s runs.0 e (refusal s e) refl runs.1.1
last_stopped rule s t (e ∷ f ∷ events) [] runs = absurd runs.2
last_stopped rule s t (e ∷ events) (a ∷ done) runs = last_stopped rule runs.0 t events done runs.2

module _ {D : Type 0} (g : Ghosts D) (old new : Replica D) where
  -- why steps of its own end early
  pub works_why : (rule : Standing → Event → Type 0) (e : Refusal) → WorksBy rule g old new (Err e) → (e ≡ Stopped) ⊎ EndsEarly e → IsHeldUp g new e
  works_why rule e works (inl is) =
      let last = works.ends.2 ∙ ap (λ (r : Refusal). works.ends.0 ++ Refused r ∷ []) is in
      inl (is, last_stopped rule (facts_of g old) (facts_of g new) works.events works.ends.0 (subst (λ (answers : List Answer). RunsBy (Allows rule) (facts_of g old) works.events answers (facts_of g new)) last works.moves))
  works_why rule e works (inr early) = inr early

  pub no_block_why : (pages : ℕ) (e : Refusal) → CommitsBlock g pages old new (Err e) → (e ≡ Stopped) ⊎ EndsEarly e → IsHeldUp g new e
  no_block_why pages e c why = works_why _ e c.works why

  pub settle_why : (r : Result (Unit {0}) Refusal) → Works g old new r → IfErr r (λ e. (e ≡ Stopped) ⊎ EndsEarly e) → IfErr r (IsHeldUp g new)
  settle_why (Ok x) works why = tt
  settle_why (Err e) works why = works_why IsNext e works why

-- a writer's fault
pub stream_why : {D : Type 0} (g : Ghosts D) (new : Replica D) (r : Result (Unit {0}) Refusal) → IfErr r (λ e. e ≡ StreamFault) → IfErr r (λ e. (e ≡ StreamFault) ⊎ IsHeldUp g new e)
stream_why g new (Ok x) is = tt
stream_why g new (Err e) is = inl is

-- ---- why an item is not taken

module _ {D : Type 0} (g : Ghosts D) (new : Replica D) (seqno : ℕ) (i : Item) where
  pub delivery_why : (r : Result (Unit {0}) Refusal) → IfErr r (λ e. refusal (facts_of g new) (delivery seqno i) ≡ Some e) → IfErr r (IsNotTaken g new seqno i)
  delivery_why (Ok x) is = tt
  delivery_why (Err e) is = inr (inr is)

  pub block_why : (e : Refusal) → (e ≡ StreamFault) ⊎ IsHeldUp g new e → IsNotTaken g new seqno i e
  block_why e (inl is) = inl is
  block_why e (inr is) = inr (inl is)
