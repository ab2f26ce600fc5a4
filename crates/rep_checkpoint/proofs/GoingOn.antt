-- The write that comes next.
use Rattle.std.proofs.Common.{◌≡◌, ◌≢◌, refl, sym, ap, subst, ◌∙◌, ℕ, inl, Bool, true, false, List, [], ◌∷◌, Option, None, Some, Result, Ok, Err, OnOk, OnErr, IfErr}
use Rattle.rep_types.specs.declared.refusal.Refusal.{Refusal}
use Rattle.rep_types.specs.declared.refusal.Refusal.TheVariants.{NotDue, DiskFault}
use Rattle.rep_types.specs.Order.{State}
use Rattle.rep_disk.specs.declared.disk.Disk.{Ghosts}
use Rattle.rep_disk.specs.History.{History}
use Rattle.rep_disk.specs.declared.disk.DiskFault.{DiskFault as Fault}
use Rattle.rep_layout.specs.declared.super_body.SuperBody.{SuperBody}
use Rattle.rep_layout.specs.declared.place.Side.{Side}
use Rattle.rep_layout.specs.declared.place.Layout.{Layout}
use Rattle.rep_layout.specs.declared.place.Place.TheVariants.{Super, Window, Log}
use Rattle.rep_layout.specs.Supers.{super_bytes}
use Rattle.rep_layout.specs.Windows.{window_bytes}
use Rattle.rep_cells.specs.States.{States, State as StateOf, Pending, filling, opening, closing, Moves}
use Rattle.rep_cells.specs.Calls.{Writes, WritesOnly, WritesIn, StepsAt, Reaches}
use Rattle.rep_cells.specs.Known.{Assigns}
use Rattle.rep_log.specs.Moves.{fault_of}
use Rattle.rep_steps.specs.Standings.{part_refusal}
use Rattle.rep_checkpoint.specs.declared.stage.Part.TheVariants.{Flushing, Saving, Ready, SuperFilling, SuperFilled, SuperOpening}
use Rattle.rep_checkpoint.specs.declared.stage.Stage.{Stage}
use Rattle.rep_checkpoint.specs.declared.stage.Stage.TheVariants.{Off, Toward, Retiring}
use Rattle.rep_checkpoint.specs.Next.{Next, is_in, window_of}
use Rattle.rep_checkpoint.specs.Standing.{Standing, spare_side, stage_in}
use Rattle.rep_checkpoint.specs.Moves.{next_refusal_at, unless_other, next_refusal, gone_in, gone_on, is_layout}
use Rattle.rep_checkpoint.specs.States.{CheckpointIs, IsBase, IsFlushing, IsSaving}
use Rattle.rep_checkpoint.specs.Calls.{next_place, next_step, next_offset, next_bytes, StepsTo, GoesOn}
use Rattle.rep_checkpoint.proofs.Frames.{super_apart, window_apart, PagesStay, base_as, written_as, saved_as, toward_as}

-- ---- in the states

module _ {size : ℕ} {b : SuperBody} {x : State} {s t : States} (base : IsBase size b x s) where
  -- a write of the superblock beside
  pub super_base : (step : StateOf → StateOf) → Moves s t (Super (spare_side b)) step → IsBase size b x t
  super_base step moves = base_as (moves.elsewhere _ (super_apart b)) (moves.elsewhere _ (λ e. absurd cc)) (λ number slot there. moves.elsewhere _ (λ e. absurd cc)) base

  -- and of the window beside
  pub window_base : (step : StateOf → StateOf) → Moves s t (Window (spare_side b)) step → IsBase size b x t
  window_base step moves = base_as (moves.elsewhere _ (λ e. absurd cc)) (moves.elsewhere _ (window_apart b)) (λ number slot there. moves.elsewhere _ (λ e. absurd cc)) base

-- what was flushed is written where none is left
pub all_flushed : (next : Next) (y : State) (s t : States) (side : Side) → next.left ≡ [] → PagesStay next.super s t → t (Window side) ≡ Pending (window_bytes (window_of next)) → IsFlushing next y s → IsSaving side next y t
all_flushed next y s t side none pages window h = record {
  window = inl window;
  content = record {
    pages = λ number slot there. let page = h.pages number slot (ap (λ left. is_in left number) none) there in (page.0, written_as page.0 _ _ (pages number slot there) page.1, page.2);
    absent = h.absent;
    outside = h.outside;
  };
}

-- nothing is left where the window is due
none_left : (next : Next) → next_refusal_at (stage_in (Toward next Flushing)) ≡ None → next.left ≡ []
none_left next e = by next.left e
  where
    by : (left : List ℕ) → part_refusal (Rattle.rep_steps.specs.Standings.Flushing left) ≡ None → left ≡ []
    by [] f = refl
    by (page ∷ left) f = absurd cc

gone : (size : ℕ) (b : SuperBody) (stage : Stage) (x y : State) (s t : States) → next_refusal_at (stage_in stage) ≡ None → CheckpointIs size (record { base = b; stage = stage }) x y s → Moves s t (next_place b stage) (next_step stage)
    → CheckpointIs size (record { base = b; stage = gone_in stage }) x y t
gone size b Off x y s t due is moves = absurd cc
gone size b (Toward next Flushing) x y s t due is moves = record {
  base = window_base is.base _ moves;
  beside = toward_as Flushing Saving is.beside
      (all_flushed next y s t (spare_side b) (none_left next due) (λ number slot there. moves.elsewhere _ (λ e. absurd cc)) moves.there is.beside.far)
      (moves.elsewhere _ (λ e. absurd cc) ∙ is.beside.cell);
}
gone size b (Toward next Saving) x y s t due is moves = absurd cc
gone size b (Toward next Ready) x y s t due is moves = record {
  base = super_base is.base _ moves;
  beside = toward_as Ready SuperFilling is.beside
      (saved_as (moves.elsewhere _ (λ e. absurd cc)) (λ number slot there. moves.elsewhere _ (λ e. absurd cc)) is.beside.far)
      (moves.there ∙ ap (filling (super_bytes next.super)) is.beside.cell);
}
gone size b (Toward next SuperFilling) x y s t due is moves = absurd cc
gone size b (Toward next SuperFilled) x y s t due is moves = record {
  base = super_base is.base _ moves;
  beside = toward_as SuperFilled SuperOpening is.beside
      (saved_as (moves.elsewhere _ (λ e. absurd cc)) (λ number slot there. moves.elsewhere _ (λ e. absurd cc)) is.beside.far)
      (moves.there ∙ ap opening is.beside.cell);
}
gone size b (Toward next SuperOpening) x y s t due is moves = absurd cc
gone size b (Retiring false) x y s t due is moves = record {
  base = super_base is.base _ moves;
  beside = record { before = is.beside.before; is_super = is.beside.is_super; lesser = is.beside.lesser; cell = moves.there ∙ ap closing is.beside.cell };
}
gone size b (Retiring true) x y s t due is moves = absurd cc

-- the write is elsewhere than the log
pub no_log : (b : SuperBody) (stage : Stage) (i : ℕ) → Log i ≢ next_place b stage
no_log b Off i e = absurd cc
no_log b (Toward next Flushing) i e = absurd cc
no_log b (Toward next Saving) i e = absurd cc
no_log b (Toward next Ready) i e = absurd cc
no_log b (Toward next SuperFilling) i e = absurd cc
no_log b (Toward next SuperFilled) i e = absurd cc
no_log b (Toward next SuperOpening) i e = absurd cc
no_log b (Retiring written) i e = absurd cc

-- ---- as the call makes it

pub ok_as : (result : Result (Unit {0}) Refusal) (P : Type 0) → OnOk (fault_of result) P → OnOk result P
ok_as (Ok x) P h = h
ok_as (Err e) P h = tt

pub err_as : (result : Result (Unit {0}) Refusal) (P : Type 0) → IfErr result (λ e. e ≡ DiskFault) → OnErr (fault_of result) P → OnErr result P
err_as (Ok x) P only h = tt
err_as (Err e) P only h = subst (λ (f : Refusal). OnErr (fault_of {T = Unit {0}} (Err f)) P) only h

pub if_ok : {T E : Type 0} (result : Result T E) (P : Type 0) → P → OnOk result P
if_ok (Ok x) P h = h
if_ok (Err e) P h = tt

-- What the device answered a write is what is answered of it: that comes to the same, and is of these bytes alone.
pub reaches_as : (l : Layout) (old new : History) (during after : States) (result : Result (Unit {0}) Refusal) → Reaches l old new during after (fault_of result) → Reaches l old new during after result
reaches_as l old new during after result h = record { ok = ok_as result _ h.ok; images = h.images; moments = h.moments }

pub writes_as : (at : ℕ) (bytes : List ℕ) (old new : History) (result : Result (Unit {0}) Refusal) → IfErr result (λ e. e ≡ DiskFault) → Writes at bytes old new (fault_of result) → Writes at bytes old new result
writes_as at bytes old new result only h = record { done = ok_as result _ h.done; failed = err_as result _ only h.failed }

-- the refusal that comes on these places
pub here : (l : Layout) (c : Standing) (refusal : Option Refusal) → unless_other l c refusal ≡ None → refusal ≡ None
here l c refusal e = by (is_layout l _) e
  where
    by : (b : Bool) → Rattle.std.specs.Prelude.cond b refusal (Some NotDue) ≡ None → refusal ≡ None
    by true f = f
    by false f = absurd cc

-- What the write that comes next did, as it is answered: it is of these bytes alone, in that place; and what stands in the states that
-- it makes of those before it stands so during the call and after it.
pub record WritesStage {D : Type 0} (g : Ghosts D) (l : Layout) (base : SuperBody) (stage : Stage) (old new : D) (result : Result (Unit {0}) Refusal) : Type 1 where
  pub written : WritesOnly g (next_offset l base stage) (next_bytes stage) old new result
  pub inside : WritesIn g l (next_place base stage) old new result
  pub steps : g.honest old → (s : States) → Assigns l (g.history old) s → (Stands : States → Type 0) → ((t : States) → Moves s t (next_place base stage) (next_step stage) → Stands t) → StepsTo l (g.history old) (g.history new) s Stands Stands result

pub writes_stage :
    {D : Type 0} (g : Ghosts D) (l : Layout) (base : SuperBody) (stage : Stage) (old new : D) (answer : Result (Unit {0}) Fault) (result : Result (Unit {0}) Refusal) → fault_of result ≡ answer → IfErr result (λ e. e ≡ DiskFault)
    → WritesOnly g (next_offset l base stage) (next_bytes stage) old new answer → WritesIn g l (next_place base stage) old new answer → StepsAt g l (next_place base stage) (next_step stage) old new answer
    → WritesStage g l base stage old new result
writes_stage g l base stage old new answer result fault only written inside steps =
    let wrote = subst (λ (r : Result (Unit {0}) Fault). WritesOnly g (next_offset l base stage) (next_bytes stage) old new r) (sym fault) written in
    let wrote_in = subst (λ (r : Result (Unit {0}) Fault). WritesIn g l (next_place base stage) old new r) (sym fault) inside in
    let stepped = subst (λ (r : Result (Unit {0}) Fault). StepsAt g l (next_place base stage) (next_step stage) old new r) (sym fault) steps in
    record {
      written = λ h. writes_as (next_offset l base stage) (next_bytes stage) (g.history old) (g.history new) result only (wrote h);
      inside = λ h. ok_as result _ (wrote_in h);
      steps = λ h s assigns Stands stand.
          let step = stepped h s assigns in
          let stands = stand step.after step.moves in
          record {
            states = step.after;
            elsewhere = λ i. step.moves.elsewhere (Log i) (no_log base stage i);
            during_is = stands;
            after_is = if_ok result _ stands;
            reaches = reaches_as l (g.history old) (g.history new) step.after step.after result step.reaches;
          };
    }

pub goes_on :
    {D : Type 0} (g : Ghosts D) (l : Layout) (c after : Standing) (old new : D) (answer : Result (Unit {0}) Fault) (result : Result (Unit {0}) Refusal)
    → next_refusal l c ≡ None → fault_of result ≡ answer → OnOk result (after ≡ gone_on c) → IfErr result (λ e. (e ≡ DiskFault) × (after ≡ c)) → IfErr result (λ e. e ≡ DiskFault)
    → WritesOnly g (next_offset l c.base c.stage) (next_bytes c.stage) old new answer → WritesIn g l (next_place c.base c.stage) old new answer → StepsAt g l (next_place c.base c.stage) (next_step c.stage) old new answer
    → GoesOn g l c after old new result
goes_on g l c after old new answer result due fault done failed only written inside steps =
    let w = writes_stage g l c.base c.stage old new answer result fault only written inside steps in
    record { done = done; fault = failed; written = w.written; inside = w.inside; steps = λ h size s x y assigns is. w.steps h s assigns _ (λ t moves. gone size c.base c.stage x y s t (here l c _ due) is moves) }
