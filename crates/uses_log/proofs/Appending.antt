-- A block that is appended, call by call.
use Rattle.std.proofs.Common.{◌≡◌, ℕ, Result, Ok, Err, OnOk, IsErr, ◌+◌, ◌≤◌, List, [], ◌∷◌, length, take, drop, None, refl, ap, subst, ◌∙◌, arith, inl, inr}
use Rattle.std.proofs.lemmas.Bool.{false≢true, eq-eqb}
use Rattle.std.proofs.lemmas.Result.{on_ok_weaker}
use Rattle.std.proofs.lemmas.List.{length-append, take-append-le}
use Rattle.rep_types.specs.declared.judged.Judged.{Judged}
use Rattle.rep_disk.specs.History.{History, IsImage}
use Rattle.rep_disk.specs.Moments.{LeavesOnly}
use Rattle.rep_disk.specs.Leaving.{leaves_then}
use Rattle.rep_layout.specs.declared.place.Layout.{Layout}
use Rattle.rep_cells.specs.Laws.{ImagesReadAsAllowed}
use Rattle.rep_cells.specs.Readings.{reading_of}
use Rattle.rep_cells.specs.States.{States, Allowed}
use Rattle.rep_cells.specs.Known.{Assigns}
use Rattle.rep_log.specs.declared.phase.Phase.{Phase}
use Rattle.rep_log.specs.declared.phase.Phase.TheVariants.{Filled, Opening}
use Rattle.rep_log.specs.declared.phase.Step.TheVariants.{Gate}
use Rattle.rep_log.specs.Tail.{IsLog, seqno_after, records_of}
use Rattle.rep_log.specs.Standing.{Standing, LogIs}
use Rattle.rep_log.specs.Moves.{sealed_as, gated, after_sync, blocks_synced, step_refusal, Steps}
use Rattle.rep_log.specs.Laws.{MayHold, TheLogInEveryImage, TheLogIsTold}
use Rattle.uses_log.specs.Appending.{Settles, HoldsOneOf, Appends, WhatAStopLeavesIsFound}

-- a log of the durable blocks, or of those and this one, is one of both
pub holds_one : {l : Layout} {s : States} {log : Standing} {first : ℕ} {blocks : List (List Judged)} {records : List Judged} {image : List ℕ} → TheLogInEveryImage → LogIs l log first blocks records s → Allowed l s (reading_of l image) → HoldsOneOf l log.start first blocks records image
holds_one {l} {s} {log} {first} {blocks} {records} {image} law is allowed =
    let h = law l s (reading_of l image) log first blocks records is allowed in
    let whole : IsLog (reading_of l image) l log.start first h.0 = subst (λ n. IsLog (reading_of l image) l n first h.0) (omega arith) (h.2 0 (omega arith)) in
    elim h.1 [
      | inl same ↦ (h.0, inl same, whole)
      | inr more ↦ (h.0, inr more.2, whole)
    ]

-- ---- a block that is appended

-- the image holds the log with the block or without it, at each moment since the first
abbrev pub Leaves : Layout → History → History → ℕ → ℕ → List (List Judged) → List Judged → Type 0
Leaves l old new start first blocks records = LeavesOnly old new (HoldsOneOf l start first blocks records)

-- some calls have succeeded: the log stands so, with the block in writing
pub record Stage (l : Layout) (old h : History) (start : ℕ) (log : Standing) (first : ℕ) (blocks : List (List Judged)) (records : List Judged) : Type 0 where
  pub states : States
  pub assigns : Assigns l h states
  pub log_is : LogIs l log first blocks records states
  pub starts : log.start ≡ start
  pub moments : Leaves l old h start first blocks records

-- what one call more comes to
pub record Went {T E : Type 0} (l : Layout) (old new : History) (start first : ℕ) (blocks : List (List Judged)) (records : List Judged) (Then : Type 0) (result : Result T E) : Type 0 where
  pub ok : OnOk result Then
  pub moments : Leaves l old new start first blocks records

-- the images of a call in whose states the log stands with the block in writing
moments_then :
    TheLogInEveryImage → (l : Layout) (old h new : History) (start : ℕ) (log : Standing) (first : ℕ) (blocks : List (List Judged)) (records : List Judged) (s : States) → Leaves l old h start first blocks records
    → LogIs l log first blocks records s → log.start ≡ start → ((image : List ℕ) → IsImage new image → Allowed l s (reading_of l image)) → LeavesOnly h new (IsImage new) → Leaves l old new start first blocks records
moments_then law l old h new start log first blocks records s before is starts images moments =
    leaves_then old h new before moments
    (λ image of. subst (λ n. HoldsOneOf l n first blocks records image) starts (holds_one law is (images image of)))

-- a step of the log
pub went_on :
    {T E : Type 0} → TheLogInEveryImage → (l : Layout) (old h new : History) (start : ℕ) (log : Standing) (first : ℕ) (blocks : List (List Judged)) (records : List Judged) (s : States) (result : Result T E)
    → Leaves l old h start first blocks records → log.start ≡ start → Steps l h new s log first blocks records result → Went l old new start first blocks records (Stage l old new start log first blocks records) result
went_on law l old h new start log first blocks records s result before starts steps =
    let moments = moments_then law l old h new start log first blocks records steps.states before steps.log_is starts steps.reaches.images steps.reaches.moments in
    record {
      ok = on_ok_weaker result (λ assigns. record { states = steps.states; assigns = assigns; log_is = steps.log_is; starts = starts; moments = moments }) steps.reaches.ok;
      moments = moments;
    }

-- a sync
pub went_stable :
    {T E : Type 0} → TheLogInEveryImage → (l : Layout) (old h new : History) (start : ℕ) (log after : Standing) (first : ℕ) (blocks : List (List Judged)) (records : List Judged) (result : Result T E)
    → (stage : Stage l old h start log first blocks records) → Settles l h new stage.states log after first blocks records result
    → Went l old new start first blocks records ((t : States) × Assigns l new t × LogIs l after first (blocks_synced log.phase blocks records) records t) result
went_stable law l old h new start log after first blocks records result stage settles = record {
  ok = settles.done;
  moments = moments_then law l old h new start log first blocks records stage.states stage.moments stage.log_is stage.starts settles.images settles.moments;
}

-- what a sync and a gate say of all states
abbrev pub SettlesAt : {T E : Type 0} → Layout → History → History → Standing → Standing → Result T E → Type 0
SettlesAt l h new log after result =
    (s : States) (first : ℕ) (blocks : List (List Judged)) (sealed : List Judged) → Assigns l h s → LogIs l log first blocks sealed s → Settles l h new s log after first blocks sealed result

abbrev pub StepsAt : {T E : Type 0} → Layout → History → History → Standing → Standing → Result T E → Type 0
StepsAt l h new log after result =
    (s : States) (first : ℕ) (blocks : List (List Judged)) (sealed : List Judged) → Assigns l h s → LogIs l log first blocks sealed s → Steps l h new s after first blocks sealed result

-- what a call that succeeded comes to
pub ends :
    {T E : Type 0} {l : Layout} {old new : History} {start first : ℕ} {blocks : List (List Judged)} {records : List Judged} {Then : Type 0} {result : Result T E} {x : T}
    → Went l old new start first blocks records Then result → result ≡ Ok x → Then
ends {Then = Then} went e = subst (λ r. OnOk r Then) e went.ok

-- two facts of a call that succeeded
both_ok : {T E : Type 0} (P Q : Type 0) (result : Result T E) → OnOk result P → OnOk result Q → OnOk result (P × Q)
both_ok P Q (Ok x) p q = (p, q)
both_ok P Q (Err e) p q = tt

-- the sync behind a block's body
pub body_settled :
    {T E : Type 0} → TheLogInEveryImage → (l : Layout) (old h new : History) (start n : ℕ) (log before after : Standing) (first : ℕ) (blocks : List (List Judged)) (records : List Judged) (result : Result T E)
    → before ≡ sealed_as n log → OnOk result (after ≡ after_sync before) → log.start ≡ start → Stage l old h start before first blocks records → SettlesAt l h new before after result
    → Went l old new start first blocks records ((after ≡ record log { phase = Filled n }) × Stage l old new start after first blocks records) result
body_settled law l old h new start n log before after first blocks records result sealed synced starts stage settles =
    let went = went_stable law l old h new start before after first blocks records result stage (settles stage.states first blocks records stage.assigns stage.log_is) in
    record {
      ok = on_ok_weaker result (λ both.
          let is : after ≡ record log { phase = Filled n } = both.1 ∙ ap after_sync sealed in
          let quiet : blocks_synced before.phase blocks records ≡ blocks = ap (λ (v : Standing). blocks_synced v.phase blocks records) sealed in (
            is,
            record {
              states = both.0.0;
              assigns = both.0.1;
              log_is = subst (λ (bs : List (List Judged)). LogIs l after first bs records both.0.0) quiet both.0.2;
              starts = ap (λ (v : Standing). v.start) is ∙ starts;
              moments = went.moments;
            },
          )) (both_ok _ _ result went.ok synced);
      moments = went.moments;
    }

-- the gate behind it
pub gate_opened :
    {T E : Type 0} → TheLogInEveryImage → (l : Layout) (old h new : History) (start n : ℕ) (log before after : Standing) (first : ℕ) (blocks : List (List Judged)) (records : List Judged) (result : Result T E)
    → before ≡ record log { phase = Filled n } → after ≡ gated before → log.start ≡ start → Stage l old h start before first blocks records → StepsAt l h new before after result
    → Went l old new start first blocks records ((after.phase ≡ Opening n) × Stage l old new start after first blocks records) result
gate_opened law l old h new start n log before after first blocks records result filled opened starts stage steps =
    let is : after ≡ record log { phase = Opening n } = opened ∙ ap gated filled in
    let went = went_on law l old h new start after first blocks records stage.states result stage.moments (ap (λ (v : Standing). v.start) is ∙ starts) (steps stage.states first blocks records stage.assigns stage.log_is) in
    record { ok = on_ok_weaker result (λ after_it. (ap (λ (v : Standing). v.phase) is, after_it)) went.ok; moments = went.moments }

-- the sync behind that
pub block_appended :
    {T E : Type 0} → TheLogInEveryImage → (l : Layout) (old h new : History) (start n : ℕ) (before after : Standing) (first : ℕ) (blocks : List (List Judged)) (records : List Judged) (result : Result T E)
    → before.phase ≡ Opening n → Stage l old h start before first blocks records → SettlesAt l h new before after result → Appends l old new start after first blocks records result
block_appended law l old h new start n before after first blocks records result opening stage settles =
    let went = went_stable law l old h new start before after first blocks records result stage (settles stage.states first blocks records stage.assigns stage.log_is) in
    record {
      done = on_ok_weaker result (λ end. (end.0, end.1, subst (λ (bs : List (List Judged)). LogIs l after first bs records end.0) (ap (λ (p : Phase). blocks_synced p blocks records) opening) end.2)) went.ok;
      moments = went.moments;
    }

-- the gate is due once the block is filled
pub gate_is_due : (l m : Layout) (n : ℕ) (log filled : Standing) → m ≡ l → l.cells ≡ log.cells → filled ≡ record log { phase = Filled n } → step_refusal Gate m filled ≡ None
gate_is_due l m n log filled same cells is = ap (λ (k : Layout). step_refusal Gate k filled) same ∙ ap (step_refusal Gate l) is ∙ rw (eq-eqb l.cells log.cells cells) refl

-- an end before the last call
pub stops :
    {T E F G : Type 0} {l : Layout} {old new : History} {start first : ℕ} {blocks : List (List Judged)} {records : List Judged} {Then : Type 0} {failed : Result T E} (after : Standing) (result : Result F G)
    → Went l old new start first blocks records Then failed → IsErr result → Appends l old new start after first blocks records result
stops after (Ok x) went fails = absurd (false≢true fails)
stops after (Err e) went fails = record { done = tt; moments = went.moments }

-- ---- what is found

-- the seqno behind the first k blocks, with one more or without
same_seqno : (phase : Phase) (blocks : List (List Judged)) (sealed : List Judged) (held : List (List Judged)) (first k : ℕ) → k ≤ length blocks → MayHold phase blocks sealed held → seqno_after first (take k held) ≡ seqno_after first (take k blocks)
same_seqno phase blocks sealed held first k le (inl same) = ap (λ xs. seqno_after first (take k xs)) same
same_seqno phase blocks sealed held first k le (inr more) = ap (λ xs. seqno_after first (take k xs)) more.2 ∙ ap (seqno_after first) (take-append-le k blocks (sealed ∷ []) le)

no_fewer : (phase : Phase) (blocks : List (List Judged)) (sealed : List Judged) (held : List (List Judged)) → MayHold phase blocks sealed held → length blocks ≤ length held
no_fewer phase blocks sealed held (inl same) = omega (arith, ap length same)
no_fewer phase blocks sealed held (inr more) = omega (arith, ap length more.2, length-append blocks (sealed ∷ []))

-- what is found in an image is what the log holds there
pub stops_are_found : ImagesReadAsAllowed → TheLogInEveryImage → TheLogIsTold → WhatAStopLeavesIsFound
stops_are_found allowed law told l h s image log again first k blocks sealed items assigns is_image is le found =
    let r = reading_of l image in
    let holds = law l s r log first blocks sealed is (allowed l h s image assigns is_image) in
    let held = holds.0 in
    let there = subst (λ n. IsLog r l (log.start + k) n (drop k held)) (same_seqno log.phase blocks sealed held first k le holds.1) (holds.2 k (omega (arith, le, no_fewer log.phase blocks sealed held holds.1))) in
    (held, holds.1, found.items_are ∙ ap records_of (told.only r l (log.start + k) (seqno_after first (take k blocks)) found.blocks (drop k held) is.some found.is_log there))
