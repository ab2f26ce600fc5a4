-- Facts with more items ahead.
use Rattle.std.proofs.Common.{◌≡◌, ◌⊎◌, inl, inr, ℕ, ◌≤◌, Bool, true, false, List, [], ◌++◌, length, drop, map, Option, None, Some, refl, sym, ap, subst, ◌∙◌}
use Rattle.std.specs.Prelude.{MatchOption, IsTrue, if◌then◌else◌}
use Rattle.std.proofs.lemmas.List.{take-append-le, drop-append-le}
use Rattle.rep_types.specs.declared.judged.Judged.{Judged}
use Rattle.rep_types.specs.declared.key.Key.{Key}
use Rattle.rep_types.specs.declared.refusal.Refusal.{Refusal}
use Rattle.rep_types.specs.declared.refusal.Refusal.TheVariants.{Stopped}
use Rattle.rep_types.specs.Replies.{reply_of}
use Rattle.rep_log.specs.Fronts.{fitting}
use Rattle.rep_log.specs.declared.phase.Phase.{Phase}
use Rattle.rep_log.specs.declared.phase.Phase.TheVariants.{Resting, Closing, Filling, Filled, Opening}
use Rattle.rep_steps.specs.declared.event.Event.{Event}
use Rattle.rep_steps.specs.declared.event.Event.TheVariants.{Log, Sync, Check, Flush, Read}
use Rattle.rep_steps.specs.declared.answer.Answer.{Answer}
use Rattle.rep_steps.specs.declared.answer.Answer.TheVariants.{Synced, Refused}
use Rattle.rep_steps.specs.Standings.{Stage, Off, Toward, Retiring, Standing, gathered, refusal, log_refusal, check_refusal}
use Rattle.rep_steps.specs.Moves.{Found, answer, after, logged, checked, check_answer, opening, takes_memory, takes_device, Moves, Fails, MeetsCorruption}
use Rattle.rep_steps.specs.Parts.{with_ahead}

-- ---- events that leave what is ahead

-- The event asks nothing of what is ahead: with these items there it does the same, and leaves them.
pub record LeavesAhead (s : Standing) (e : Event) (ahead : List Judged) : Type 0 where
  pub refused : refusal (with_ahead ahead s) e ≡ refusal s e
  pub answered : (f : Found) → answer (with_ahead ahead s) e f ≡ answer s e f
  pub moved : (f : Found) → after (with_ahead ahead s) e f ≡ with_ahead ahead (after s e f)
  pub memory : takes_memory (with_ahead ahead s) e ≡ takes_memory s e
  pub device : takes_device (with_ahead ahead s) e ≡ takes_device s e

module _ (s t : Standing) (e : Event) (a : Answer) (ahead : List Judged) (l : LeavesAhead s e ahead) where
  abbrev Moved : Option Refusal → Type 0
  Moved o =
      MatchOption o (((f : Found) × (a ≡ answer (with_ahead ahead s) e f) × (with_ahead ahead t ≡ after (with_ahead ahead s) e f)) ⊎ (Fails (with_ahead ahead s) e a (with_ahead ahead t) ⊎ MeetsCorruption (with_ahead ahead s) e a (with_ahead ahead t)))
      (λ r. (a ≡ Refused r) × (with_ahead ahead t ≡ with_ahead ahead s))

  moves_by : (o : Option Refusal) → MatchOption o (((f : Found) × (a ≡ answer s e f) × (t ≡ after s e f)) ⊎ (Fails s e a t ⊎ MeetsCorruption s e a t)) (λ r. (a ≡ Refused r) × (t ≡ s)) → Moved o
  moves_by None (inl d) = inl (d.0, d.1 ∙ sym (l.answered d.0), ap (with_ahead ahead) d.2 ∙ sym (l.moved d.0))
  moves_by None (inr (inl (inl m))) = inr (inl (inl (subst (λ b. IsTrue b) (sym l.memory) m.0, m.1, ap (with_ahead ahead) m.2)))
  moves_by None (inr (inl (inr d))) = inr (inl (inr (subst (λ b. IsTrue b) (sym l.device) d.0, d.1, d.2, ap (with_ahead ahead) d.3)))
  moves_by None (inr (inr c)) = inr (inr (c.0, c.1, ap (with_ahead ahead) c.2))
  moves_by (Some r) m = (m.0, ap (with_ahead ahead) m.1)

  pub moves_with : Moves s e a t → Moves (with_ahead ahead s) e a (with_ahead ahead t)
  moves_with m = subst Moved (sym l.refused) (moves_by (refusal s e) m)

-- ---- the log

pub logged_same : (k m : ℕ) (stale : Bool) (phase : Phase) → (phase ≡ Resting → k ≡ m) → logged k stale phase ≡ logged m stale phase
logged_same k m true Resting same = refl
logged_same k m false Resting same = ap Filling (same refl)
logged_same k m stale Closing same = refl
logged_same k m stale (Filling n) same = refl
logged_same k m stale (Filled n) same = refl
logged_same k m stale (Opening n) same = refl

log_refusal_same : (s : Standing) (ahead : List Judged) (phase : Phase) → (phase ≡ Resting → gathered s ≡ fitting [] ahead) → log_refusal (with_ahead ahead s) phase ≡ log_refusal s phase
log_refusal_same s ahead Resting same = rw (same refl) refl
log_refusal_same s ahead Closing same = refl
log_refusal_same s ahead (Filling n) same = refl
log_refusal_same s ahead (Filled n) same = refl
log_refusal_same s ahead (Opening n) same = refl

pub log_leaves : (s : Standing) (ahead : List Judged) → (s.phase ≡ Resting → gathered s ≡ fitting [] ahead) → LeavesAhead s Log ahead
log_leaves s ahead same = record {
  refused = ap (λ o. if s.stopped then Some Stopped else o) (log_refusal_same s ahead s.phase same);
  answered = λ f. refl;
  moved = λ f. ap (λ p. record s { ahead = ahead; phase = p }) (logged_same (fitting [] ahead) (gathered s) f.stale s.phase (λ rests. sym (same rests)));
  memory = refl;
  device = refl;
}

-- ---- a read and the checkpoint

pub read_leaves : (s : Standing) (key : Key) (at : ℕ) (ahead : List Judged) → LeavesAhead s (Read key at) ahead
read_leaves s key at ahead = record { refused = refl; answered = λ f. refl; moved = λ f. refl; memory = refl; device = refl }

pub flush_leaves : (s : Standing) (page : ℕ) (ahead : List Judged) → LeavesAhead s (Flush page) ahead
flush_leaves s page ahead = record { refused = refl; answered = λ f. refl; moved = λ f. refl; memory = refl; device = refl }

check_refusal_same : (s : Standing) (ahead : List Judged) (stage : Stage) → check_refusal (with_ahead ahead s) stage ≡ check_refusal s stage
check_refusal_same s ahead Off = refl
check_refusal_same s ahead (Toward goal part) = refl
check_refusal_same s ahead (Retiring written) = refl

check_answer_same : (s : Standing) (ahead : List Judged) (stage : Stage) → check_answer (with_ahead ahead s) stage ≡ check_answer s stage
check_answer_same s ahead Off = refl
check_answer_same s ahead (Toward goal part) = refl
check_answer_same s ahead (Retiring written) = refl

checked_same : (s : Standing) (ahead : List Judged) (left : List ℕ) (stage : Stage) → checked (with_ahead ahead s) left stage ≡ checked s left stage
checked_same s ahead left Off = refl
checked_same s ahead left (Toward goal part) = refl
checked_same s ahead left (Retiring written) = refl

pub check_leaves : (s : Standing) (ahead : List Judged) → LeavesAhead s Check ahead
check_leaves s ahead = record {
  refused = ap (λ o. if s.stopped then Some Stopped else o) (check_refusal_same s ahead s.stage);
  answered = λ f. check_answer_same s ahead s.stage;
  moved = λ f. ap (λ stage. record s { ahead = ahead; stage = stage }) (checked_same s ahead f.left s.stage);
  memory = refl;
  device = refl;
}

-- ---- a sync

-- what is ahead after it, where more waits
synced_ahead : (k : ℕ) (block more : List Judged) → k ≤ length block → drop k (block ++ more) ≡ drop k block ++ more
synced_ahead k block more le = drop-append-le k block more le

sync_moves_by : (stopped : Bool) (s t : Standing) (a : Answer) (more : List Judged) → opening s.phase ≤ length s.ahead
    → MatchOption (if stopped then Some Stopped else None) (((f : Found) × (a ≡ answer s Sync f) × (t ≡ after s Sync f)) ⊎ (Fails s Sync a t ⊎ MeetsCorruption s Sync a t)) (λ r. (a ≡ Refused r) × (t ≡ s))
    → MatchOption (if stopped then Some Stopped else None)
    (((f : Found) × (a ≡ answer (with_ahead (s.ahead ++ more) s) Sync f) × (with_ahead (t.ahead ++ more) t ≡ after (with_ahead (s.ahead ++ more) s) Sync f))
    ⊎ (Fails (with_ahead (s.ahead ++ more) s) Sync a (with_ahead (t.ahead ++ more) t) ⊎ MeetsCorruption (with_ahead (s.ahead ++ more) s) Sync a (with_ahead (t.ahead ++ more) t)))
    (λ r. (a ≡ Refused r) × (with_ahead (t.ahead ++ more) t ≡ with_ahead (s.ahead ++ more) s))
sync_moves_by true s t a more le m = (m.0, ap (λ (k : Standing). with_ahead (k.ahead ++ more) k) m.1)
sync_moves_by false s t a more le (inl d) =
    let replies = ap (λ js. Synced (map reply_of js)) (sym (take-append-le (opening s.phase) s.ahead more le)) in
    inl (d.0, d.1 ∙ replies, ap (λ (k : Standing). with_ahead (k.ahead ++ more) k) d.2 ∙ ap (λ js. with_ahead js (after (with_ahead (s.ahead ++ more) s) Sync d.0)) (sym (synced_ahead (opening s.phase) s.ahead more le)))
sync_moves_by false s t a more le (inr (inl (inl m))) = inr (inl (inl (m.0, m.1, ap (λ (k : Standing). with_ahead (k.ahead ++ more) k) m.2)))
sync_moves_by false s t a more le (inr (inl (inr d))) = inr (inl (inr (d.0, d.1, d.2, ap (λ (k : Standing). with_ahead (k.ahead ++ more) k) d.3)))
sync_moves_by false s t a more le (inr (inr c)) = inr (inr (c.0, c.1, ap (λ (k : Standing). with_ahead (k.ahead ++ more) k) c.2))

pub sync_moves : (s t : Standing) (a : Answer) (more : List Judged) → opening s.phase ≤ length s.ahead → Moves s Sync a t → Moves (with_ahead (s.ahead ++ more) s) Sync a (with_ahead (t.ahead ++ more) t)
sync_moves s t a more le m = sync_moves_by s.stopped s t a more le m
