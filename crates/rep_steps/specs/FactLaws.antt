-- What the facts alone say of a step.
use Rattle.std.proofs.Common.{◌≡◌, ◌⊎◌, inl, inr, ℕ, ◌-◌, ◌≤◌, true, List, [], ◌∷◌, length-append, length-drop, Option, None, Some, refl, sym, subst, ◌∙◌, arith}
use Rattle.std.specs.Prelude.{◌≢◌, MatchOption}
use Rattle.rep_types.specs.declared.item.Item.{Item}
use Rattle.rep_types.specs.declared.item.Item.TheVariants.{WriteSet}
use Rattle.rep_types.specs.declared.refusal.Refusal.{Refusal}
use Rattle.rep_types.specs.declared.refusal.Refusal.TheVariants.{DiskFault}
use Rattle.rep_types.specs.declared.verdict.Verdict.{Verdict}
use Rattle.rep_steps.specs.declared.event.Event.{Event}
use Rattle.rep_steps.specs.declared.event.Event.TheVariants.{Deliver, SetWindow, Log, Sync, Check, Flush, Read}
use Rattle.rep_steps.specs.declared.answer.Answer.{Answer}
use Rattle.rep_steps.specs.declared.answer.Answer.TheVariants.{Refused}
use Rattle.rep_steps.specs.Events.{change}
use Rattle.rep_steps.specs.Standings.{Stage, Off, Toward, Retiring, Flushing, Saving, Ready, SuperFilling, SuperFilled, SuperOpening, HasGoal, Standing, delivered, refusal}
use Rattle.rep_steps.specs.Moves.{Found, Moves, Fails, MeetsCorruption, answer, after, base_after, next_item, opening, with_item}
use Rattle.rep_steps.specs.Runs.{Runs}

-- ---- what stays over each step

-- The cluster and the parameters stay, and no less is delivered and durable.
pub record Stays (s t : Standing) : Type 0 where
  pub uuid : t.uuid ≡ s.uuid
  pub setting : t.setting ≡ s.setting
  pub count : delivered s ≤ delivered t
  pub rises : s.durable ≤ t.durable

pub stays_here : (s : Standing) → Stays s s
stays_here s = record { uuid = refl; setting = refl; count = omega arith; rises = omega arith }

stays_then : (s t u : Standing) → Stays s t → Stays t u → Stays s u
stays_then s t u a b = record { uuid = b.uuid ∙ a.uuid; setting = b.setting ∙ a.setting; count = omega (arith, a.count, b.count); rises = omega (arith, a.rises, b.rises) }

item_stays : (s : Standing) (i : Item) (v : Verdict) → Stays s (with_item s i v)
item_stays s i v = record { uuid = refl; setting = refl; count = omega (arith, length-append s.ahead (next_item s i v ∷ [])); rises = omega arith }

after_stays : (s : Standing) (e : Event) (f : Found) → Stays s (after s e f)
after_stays s (Deliver seqno w) f = item_stays s (WriteSet w) f.verdict
after_stays s (SetWindow seqno size source trx) f = item_stays s (change size source trx) f.verdict
after_stays s Log f = record { uuid = refl; setting = refl; count = omega arith; rises = omega arith }
after_stays s Sync f = record { uuid = refl; setting = refl; count = omega (arith, length-drop (opening s.phase) s.ahead); rises = omega arith }
after_stays s Check f = record { uuid = refl; setting = refl; count = omega arith; rises = omega arith }
after_stays s (Flush page) f = record { uuid = refl; setting = refl; count = omega arith; rises = omega arith }
after_stays s (Read key at) f = stays_here s

failed_stays : (s : Standing) (failures : ℕ) → Stays s (record s { failures = failures; stopped = true })
failed_stays s failures = record { uuid = refl; setting = refl; count = omega arith; rises = omega arith }

pub move_stays : (s : Standing) (e : Event) (a : Answer) (t : Standing) → Moves s e a t → Stays s t
move_stays s e a t m = by (refusal s e) m
  where
    by : (o : Option Refusal) → MatchOption o (((f : Found) × (a ≡ answer s e f) × (t ≡ after s e f)) ⊎ (Fails s e a t ⊎ MeetsCorruption s e a t)) (λ r. (a ≡ Refused r) × (t ≡ s)) → Stays s t
    by (Some r) refused = subst (Stays s) (sym refused.1) (stays_here s)
    by None (inl went) = subst (Stays s) (sym went.2) (after_stays s e went.0)
    by None (inr (inl (inl hungry))) = subst (Stays s) (sym hungry.2) (stays_here s)
    by None (inr (inl (inr fault))) = subst (Stays s) (sym fault.3) (failed_stays s t.failures)
    by None (inr (inr corrupt)) = subst (Stays s) (sym corrupt.2) (stays_here s)

-- over a run of such steps, too
pub runs_stay : (one : Standing → Event → Answer → Standing → Type 0) → ((s : Standing) (e : Event) (a : Answer) (t : Standing) → one s e a t → Moves s e a t)
    → (events : List Event) (answers : List Answer) (s t : Standing) → Runs one s events answers t → Stays s t
runs_stay one is [] [] s t run = subst (Stays s) run (stays_here s)
runs_stay one is [] (a ∷ answers) s t run = absurd run
runs_stay one is (e ∷ events) [] s t run = absurd run
runs_stay one is (e ∷ events) (a ∷ answers) s t run = stays_then s run.0 t (move_stays s e a run.0 (is s e a run.0 run.1)) (runs_stay one is events answers run.0 t run.2)

-- ---- what stays where no device's fault is answered

-- It is stopped exactly where it was, and no failure is counted.
pub record Serves (s t : Standing) : Type 0 where
  pub stopped : t.stopped ≡ s.stopped
  pub failures : t.failures ≡ s.failures

serves_here : (s : Standing) → Serves s s
serves_here s = record { stopped = refl; failures = refl }

pub after_serves : (s : Standing) (e : Event) (f : Found) → Serves s (after s e f)
after_serves s (Deliver seqno w) f = record { stopped = refl; failures = refl }
after_serves s (SetWindow seqno size source trx) f = record { stopped = refl; failures = refl }
after_serves s Log f = record { stopped = refl; failures = refl }
after_serves s Sync f = record { stopped = refl; failures = refl }
after_serves s Check f = record { stopped = refl; failures = refl }
after_serves s (Flush page) f = record { stopped = refl; failures = refl }
after_serves s (Read key at) f = serves_here s

pub move_serves : (s : Standing) (e : Event) (a : Answer) (t : Standing) → a ≢ Refused DiskFault → Moves s e a t → Serves s t
move_serves s e a t served m = by (refusal s e) m
  where
    by : (o : Option Refusal) → MatchOption o (((f : Found) × (a ≡ answer s e f) × (t ≡ after s e f)) ⊎ (Fails s e a t ⊎ MeetsCorruption s e a t)) (λ r. (a ≡ Refused r) × (t ≡ s)) → Serves s t
    by (Some r) refused = subst (Serves s) (sym refused.1) (serves_here s)
    by None (inl went) = subst (Serves s) (sym went.2) (after_serves s e went.0)
    by None (inr (inl (inl hungry))) = subst (Serves s) (sym hungry.2) (serves_here s)
    by None (inr (inl (inr fault))) = absurd (served fault.1)
    by None (inr (inr corrupt)) = subst (Serves s) (sym corrupt.2) (serves_here s)

-- over a run, too, whose answers `served` says of
pub runs_serve : (one : Standing → Event → Answer → Standing → Type 0) → ((s : Standing) (e : Event) (a : Answer) (t : Standing) → one s e a t → Moves s e a t)
    → (served : List Answer → Type 0) → ((a : Answer) (answers : List Answer) → served (a ∷ answers) → (a ≢ Refused DiskFault) × served answers)
    → (events : List Event) (answers : List Answer) (s t : Standing) → served answers → Runs one s events answers t → Serves s t
runs_serve one is served each [] [] s t all run = subst (Serves s) run (serves_here s)
runs_serve one is served each [] (a ∷ answers) s t all run = absurd run
runs_serve one is served each (e ∷ events) [] s t all run = absurd run
runs_serve one is served each (e ∷ events) (a ∷ answers) s t all run =
    let here = each a answers all in
    let first = move_serves s e a run.0 here.0 (is s e a run.0 run.1) in
    let rest = runs_serve one is served each events answers run.0 t here.1 run.2 in
    record { stopped = rest.stopped ∙ first.stopped; failures = rest.failures ∙ first.failures }

-- ---- the base

-- what a sync leaves behind the base was durable
pub passed_by : (base durable start next : ℕ) (stage : Stage) → HasGoal base durable start next stage → base ≤ durable → base_after base stage - base ≤ durable - base
passed_by base durable start next Off h le = omega arith
passed_by base durable start next (Toward goal (Flushing left)) h le = omega arith
passed_by base durable start next (Toward goal Saving) h le = omega arith
passed_by base durable start next (Toward goal Ready) h le = omega arith
passed_by base durable start next (Toward goal SuperFilling) h le = omega arith
passed_by base durable start next (Toward goal SuperFilled) h le = omega arith
passed_by base durable start next (Toward goal SuperOpening) h le = omega (arith, h.within)
passed_by base durable start next (Retiring written) h le = omega arith
