-- The log's steps of a replica that settles, and how much they leave to do.
use Rattle.std.proofs.Common.{◌≡◌, ℕ, ◌+◌, ◌*◌, ◌<◌, ◌≤◌, ◌⊎◌, inl, inr, Bool, true, false, List, [], ◌∷◌, ◌++◌, length, drop, None, Some, refl, sym, ap, subst, ◌∙◌, arith, get_or-set_same, length-set, length-drop, length-append}
use Rattle.std.proofs.Math.ListN.{get_or-eq_default}
use Rattle.rep_types.specs.Settings.{Setting, is_setting}
use Rattle.std.proofs.lemmas.Bool.{cases_lt, false_from_ne_true}
use Rattle.std.proofs.lemmas.Bool.Decides.{nat_tests}
use Rattle.std.specs.Prelude.{IfSome, nat_le, ◌==◌, if◌then◌else◌, get_or, slice_get, slice_set}
use Rattle.rep_types.specs.declared.judged.Judged.{Judged}
use Rattle.rep_types.specs.declared.refusal.Refusal.TheVariants.{NotDue, LogFull}
use Rattle.rep_record.specs.Blocks.{has_room}
use Rattle.rep_types.specs.Items.{IsWithin}
use Rattle.rep_record.specs.Fronts.{fitting, FrontsAreDetermined}
use Rattle.rep_log.specs.declared.phase.Phase.{Phase}
use Rattle.rep_log.specs.declared.phase.Phase.TheVariants.{Resting, Closing, Filling, Filled, Opening}
use Rattle.rep_log.specs.declared.phase.Step.TheVariants.{Recycle, Seal, Gate, Sync as to_sync, Full}
use Rattle.rep_log.specs.Standing.{Standing as Log, busy, stands_at, index_of, due_in, due_of}
use Rattle.rep_log.specs.Moves.{after_sync, synced_in, gated_in, started}
use Rattle.rep_steps.specs.declared.event.Event.{Event}
use Rattle.rep_steps.specs.declared.event.Event.TheVariants.{Log as to_log, Sync, Check}
use Rattle.rep_steps.specs.Standings.{Standing, refusal_here, log_refusal, check_refusal, gathered, Flushing, Off, Toward}
use Rattle.rep_steps.specs.Moves.{Found, after, checked, opening}
use Rattle.rep_recover.specs.Engines.{IsEngine, IsWhole, HasAll, phase_at, durable_of}
use Rattle.rep_recover.specs.Writing.{IsWrite, written_in}
use Rattle.rep_replica.specs.Replicas.{Replica, ArePlaced, facts_of}
use Rattle.rep_replica.specs.Settling.{IsRunning, log_event, due_at, due, start_of, Rests, left_at_rest, left_in, work_of}
use Rattle.rep_replica.specs.Committing.{is_full_in, is_full, LeavesRoom}
use Rattle.rep_disk.specs.declared.disk.Disk.{Ghosts}

-- ---- what is due of the log

-- where its next cell is live, it is at rest, and there is something behind the base
full_by : (log : Log) (phase : Phase) → log.phase ≡ phase → due_in log phase ≡ Full → (log.phase ≡ Resting) × (nat_le (log.start + log.cells) log.next ≡ true)
full_by log Resting is due = (is, by (nat_le (log.start + log.cells) log.next) (stands_at log (index_of log)) due)
  where
    by : (live stale : Bool) → (if live then Full else if stale then Recycle else Seal) ≡ Full → live ≡ true
    by true stale e = refl
    by false true e = absurd (let never : Recycle ≡ Full = e in cc)
    by false false e = absurd (let never : Seal ≡ Full = e in cc)
full_by log Closing is due = absurd (let never : to_sync ≡ Full = due in cc)
full_by log (Filling n) is due = absurd (let never : to_sync ≡ Full = due in cc)
full_by log (Filled n) is due = absurd (let never : Gate ≡ Full = due in cc)
full_by log (Opening n) is due = absurd (let never : to_sync ≡ Full = due in cc)

pub full_due : (log : Log) → due_of log ≡ Full → (log.phase ≡ Resting) × (nat_le (log.start + log.cells) log.next ≡ true)
full_due log due = full_by log log.phase refl due

-- a log at rest awaits no sync
rests_no_sync : (log : Log) → due_in log Resting ≡ to_sync → ⊥
rests_no_sync log due = by (nat_le (log.start + log.cells) log.next) (stands_at log (index_of log)) due
  where
    by : (live stale : Bool) → (if live then Full else if stale then Recycle else Seal) ≡ to_sync → ⊥
    by true stale e = let never : Full ≡ to_sync = e in cc
    by false true e = let never : Recycle ≡ to_sync = e in cc
    by false false e = let never : Seal ≡ to_sync = e in cc

-- what a log that awaits a sync has written
pub awaits : (log : Log) (phase : Phase) → due_in log phase ≡ to_sync → (phase ≡ Closing) ⊎ (((n : ℕ) × (phase ≡ Filling n)) ⊎ ((n : ℕ) × (phase ≡ Opening n)))
awaits log Resting due = absurd (rests_no_sync log due)
awaits log Closing due = inl refl
awaits log (Filling n) due = inr (inl (n, refl))
awaits log (Filled n) due = absurd (let never : Gate ≡ to_sync = due in cc)
awaits log (Opening n) due = inr (inr (n, refl))

-- ---- a block that has something takes something

first_fits : (b : Judged) (bs rest : List Judged) → fitting [] (b ∷ bs) ≡ length (b ∷ bs) → 1 ≤ fitting [] (b ∷ rest)
first_fits b bs rest all = by (has_room [] b) refl
  where
    by : (room : Bool) → has_room [] b ≡ room → 1 ≤ fitting [] (b ∷ rest)
    by true room = omega (arith, ap (λ k. if k then fitting (b ∷ []) rest + 1 else 0) room)
    by false room = absurd (omega (arith, all, ap (λ k. if k then fitting (b ∷ []) bs + 1 else 0) room))

pub some_fit : FrontsAreDetermined → (block backlog : List Judged) → fitting [] block ≡ length block → ArePlaced backlog → IfSome (slice_get backlog 0) (λ j. IsWithin j.item) → 0 < length (block ++ backlog) → 1 ≤ fitting [] (block ++ backlog)
some_fit fronts [] [] all placed limits some = absurd (omega (arith, some))
some_fit fronts [] (j ∷ js) all placed limits some = fronts.first j js placed.0 limits
some_fit fronts (b ∷ bs) backlog all placed limits some = first_fits b bs (bs ++ backlog) all

-- ---- nothing refuses it

some_cells : (p : Setting) → is_setting p ≡ true → 0 < p.cells
some_cells p is = grind (arith, nat_tests, is)

module _ {D : Type 0} (g : Ghosts D) (r : Replica D) (running : IsRunning r) (h : IsEngine r.engine.layout r.engine.checkpoint r.engine.log r.engine.kept r.engine.block) where
  pub phase_is : (facts_of g r).phase ≡ r.engine.log.phase
  phase_is = ap (phase_at r.engine.log.phase) running.device

  -- a checkpoint may begin where the next cell is live
  pub can_begin : (facts_of g r).stage ≡ Off → due_of r.engine.log ≡ Full → refusal_here (facts_of g r) Check ≡ None
  can_begin off due =
      let full : r.engine.log.start + r.engine.log.cells ≤ r.engine.log.next = grind (arith, nat_tests, (full_due r.engine.log due).1) in
      let some : 0 < r.engine.log.cells = omega (arith, h.cells, some_cells r.engine.checkpoint.base.params h.checkpoint.is_super.setting) in
      let above : nat_le (durable_of r.engine.log) r.engine.checkpoint.base.position ≡ false = grind (arith, nat_tests, full, some, h.items) in
      ap (check_refusal (facts_of g r)) off ∙ ap (λ b. if b then Some NotDue else None) above

  -- what is due is written
  log_by : (phase : Phase) → r.engine.log.phase ≡ phase → IsWrite (due_in r.engine.log phase) → 1 ≤ gathered (facts_of g r) → log_refusal (facts_of g r) phase ≡ None
  log_by Resting is write some = by (nat_le (r.engine.log.start + r.engine.log.cells) r.engine.log.next) (stands_at r.engine.log (index_of r.engine.log)) refl write
    where
      by : (live stale : Bool) → nat_le (r.engine.log.start + r.engine.log.cells) r.engine.log.next ≡ live → IsWrite (if live then Full else if stale then Recycle else Seal) → log_refusal (facts_of g r) Resting ≡ None
      by true stale live write = absurd write
      by false stale live write =
          let free : nat_le (r.engine.log.start + r.engine.checkpoint.base.params.cells) r.engine.log.next ≡ false = ap (λ c. nat_le (r.engine.log.start + c) r.engine.log.next) (sym h.cells) ∙ live in
          let has : (gathered (facts_of g r) == 0) ≡ false = grind (arith, nat_tests, some) in
          ap (λ b. if b then Some NotDue else if nat_le (r.engine.log.start + r.engine.checkpoint.base.params.cells) r.engine.log.next then Some LogFull else None) has ∙ ap (λ b. if b then Some LogFull else None) free
  log_by Closing is write some = absurd write
  log_by (Filling n) is write some = absurd write
  log_by (Filled n) is write some = refl
  log_by (Opening n) is write some = absurd write

  pub can_log : FrontsAreDetermined → IsWrite (due_of r.engine.log) → ArePlaced r.backlog → IfSome (slice_get r.backlog 0) (λ j. IsWithin j.item) → 0 < length (facts_of g r).ahead → refusal_here (facts_of g r) to_log ≡ None
  can_log fronts write placed limits some =
      ap (log_refusal (facts_of g r)) phase_is ∙ log_by r.engine.log.phase refl write (some_fit fronts r.engine.block r.backlog h.fits placed limits some)

  -- ---- what is due

  -- the log's step, where no checkpoint is under way
  due_off : (e : Event) → (facts_of g r).stage ≡ Off → 0 < length (facts_of g r).ahead → log_event (facts_of g r) r.engine.log.phase ≡ e → due (facts_of g r) ≡ Some e
  due_off e off some is =
      let s = facts_of g r in
      let has : (length s.ahead == 0) ≡ false = grind (arith, nat_tests, some) in
      ap (due_at s) off ∙ ap (λ b. if b then None else Some (log_event s s.phase)) has ∙ ap Some (ap (log_event s) phase_is ∙ is)

  -- whether its next cell is live, as the facts have it
  live_is : (live : Bool) → nat_le (r.engine.log.start + r.engine.log.cells) r.engine.log.next ≡ live → nat_le ((facts_of g r).start + (facts_of g r).setting.cells) (facts_of g r).next ≡ live
  live_is live is = ap (λ c. nat_le (r.engine.log.start + c) r.engine.log.next) (sym h.cells) ∙ is

  pub write_by : (phase : Phase) → IsWrite (due_in r.engine.log phase) → log_event (facts_of g r) phase ≡ to_log
  write_by Resting write = by (nat_le (r.engine.log.start + r.engine.log.cells) r.engine.log.next) (stands_at r.engine.log (index_of r.engine.log)) refl write
    where
      by : (live stale : Bool) → nat_le (r.engine.log.start + r.engine.log.cells) r.engine.log.next ≡ live → IsWrite (if live then Full else if stale then Recycle else Seal) → log_event (facts_of g r) Resting ≡ to_log
      by true stale is write = absurd write
      by false stale is write = ap (λ b. if b then Check else to_log) (live_is false is)
  write_by Closing write = absurd write
  write_by (Filling n) write = absurd write
  write_by (Filled n) write = refl
  write_by (Opening n) write = absurd write

  pub sync_by : (phase : Phase) → due_in r.engine.log phase ≡ to_sync → log_event (facts_of g r) phase ≡ Sync
  sync_by Resting is = absurd (rests_no_sync r.engine.log is)
  sync_by Closing is = refl
  sync_by (Filling n) is = refl
  sync_by (Filled n) is = absurd (let never : Gate ≡ to_sync = is in cc)
  sync_by (Opening n) is = refl

  pub log_due : (facts_of g r).stage ≡ Off → 0 < length (facts_of g r).ahead → IsWrite (due_of r.engine.log) → due (facts_of g r) ≡ Some to_log
  log_due off some write = due_off to_log off some (write_by r.engine.log.phase write)

  pub sync_due : (facts_of g r).stage ≡ Off → 0 < length (facts_of g r).ahead → due_of r.engine.log ≡ to_sync → due (facts_of g r) ≡ Some Sync
  sync_due off some is = due_off Sync off some (sync_by r.engine.log.phase is)

  pub check_due : (facts_of g r).stage ≡ Off → 0 < length (facts_of g r).ahead → due_of r.engine.log ≡ Full → due (facts_of g r) ≡ Some Check
  check_due off some is =
      let full = full_due r.engine.log is in
      due_off Check off some (ap (log_event (facts_of g r)) full.0 ∙ ap (λ b. if b then Check else to_log) (live_is true full.1))

  -- ---- whether it is full

  full_by_facts : (phase : Phase) → is_full_in (facts_of g r) phase ≡ true → due_in r.engine.log phase ≡ Full
  full_by_facts Resting full =
      let live : nat_le (r.engine.log.start + r.engine.log.cells) r.engine.log.next ≡ true = ap (λ c. nat_le (r.engine.log.start + c) r.engine.log.next) h.cells ∙ full in
      ap (λ b. if b then Full else if stands_at r.engine.log (index_of r.engine.log) then Recycle else Seal) live
  full_by_facts Closing full = absurd (let never : false ≡ true = full in cc)
  full_by_facts (Filling n) full = absurd (let never : false ≡ true = full in cc)
  full_by_facts (Filled n) full = absurd (let never : false ≡ true = full in cc)
  full_by_facts (Opening n) full = absurd (let never : false ≡ true = full in cc)

  pub full_of : is_full (facts_of g r) ≡ true → due_of r.engine.log ≡ Full
  full_of full = full_by_facts r.engine.log.phase (sym (ap (is_full_in (facts_of g r)) phase_is) ∙ full)

  pub not_full : (due_of r.engine.log ≡ Full → ⊥) → is_full (facts_of g r) ≡ false
  not_full not = false_from_ne_true (is_full (facts_of g r)) (λ full. not (full_of full))

-- ---- how much is left

-- a gate that was closed doesn't stand open
closed_at : (stands : List Bool) (i : ℕ) → get_or (slice_set stands i false) i false ≡ false
closed_at stands i = elim (cases_lt i (length stands)) [
  | inl lt ↦ get_or-set_same stands i false false lt
  | inr le ↦ get_or-eq_default (slice_set stands i false) false (omega (arith, le, length-set stands i false))
]

at_most_7 : (live stale : Bool) → left_at_rest live stale ≤ 7
at_most_7 true stale = omega arith
at_most_7 false true = omega arith
at_most_7 false false = omega arith

at_most_6 : (stale : Bool) → left_at_rest false stale ≤ 6
at_most_6 true = omega arith
at_most_6 false = omega arith

left_at_most_7 : (s : Standing) (stale : Bool) (phase : Phase) → left_in s stale phase ≤ 7
left_at_most_7 s stale Resting = at_most_7 (nat_le (s.start + s.setting.cells) s.next) stale
left_at_most_7 s stale Closing = omega arith
left_at_most_7 s stale (Filling n) = omega arith
left_at_most_7 s stale (Filled n) = omega arith
left_at_most_7 s stale (Opening n) = omega arith

abbrev stale_in : {D : Type 0} → Replica D → Bool
stale_in r = stands_at r.engine.log (index_of r.engine.log)

-- as its phase has it
pub work_is : {D : Type 0} (g : Ghosts D) (r : Replica D) (phase : Phase) → (facts_of g r).phase ≡ phase → work_of g r ≡ 8 * length (facts_of g r).ahead + left_in (facts_of g r) (stale_in r) phase
work_is g r phase is = ap (λ (p : Phase). 8 * length (facts_of g r).ahead + left_in (facts_of g r) (stale_in r) p) is

module _ {D : Type 0} (g : Ghosts D) (old new : Replica D) (running : IsRunning old) (runs : IsRunning new) (h : IsEngine old.engine.layout old.engine.checkpoint old.engine.log old.engine.kept old.engine.block) where
  abbrev s : Standing
  s = facts_of g old

  abbrev t : Standing
  t = facts_of g new

  abbrev log : Log
  log = old.engine.log

  old_phase : (phase : Phase) → log.phase ≡ phase → s.phase ≡ phase
  old_phase phase is = ap (phase_at log.phase) running.device ∙ is

  new_phase : (phase : Phase) → new.engine.log.phase ≡ phase → t.phase ≡ phase
  new_phase phase is = ap (phase_at new.engine.log.phase) runs.device ∙ is

  -- ---- a write

  written_by : (n : ℕ) (phase : Phase) → log.phase ≡ phase → IsWrite (due_in log phase) → t.ahead ≡ s.ahead → new.engine.log ≡ written_in (due_in log phase) n log → work_of g new < work_of g old
  written_by n Resting is write ahead after = by (nat_le (log.start + log.cells) log.next) (stale_in old) refl refl write after
    where
      by : (live stale : Bool) → nat_le (log.start + log.cells) log.next ≡ live → stale_in old ≡ stale → IsWrite (if live then Full else if stale then Recycle else Seal)
          → new.engine.log ≡ written_in (if live then Full else if stale then Recycle else Seal) n log → work_of g new < work_of g old
      by true stale a b write after = absurd write
      by false true a b write after =
          let free : nat_le (s.start + s.setting.cells) s.next ≡ false = ap (λ c. nat_le (log.start + c) log.next) (sym h.cells) ∙ a in
          let before : left_in s (stale_in old) Resting ≡ 6 = ap (λ x. left_at_rest x (stale_in old)) free ∙ ap (left_at_rest false) b in
          let now = new_phase Closing (ap (λ (l : Log). l.phase) after) in
          omega (arith, work_is g old Resting (old_phase Resting is), before, work_is g new Closing now, ap length ahead)
      by false false a b write after =
          let free : nat_le (s.start + s.setting.cells) s.next ≡ false = ap (λ c. nat_le (log.start + c) log.next) (sym h.cells) ∙ a in
          let before : left_in s (stale_in old) Resting ≡ 4 = ap (λ x. left_at_rest x (stale_in old)) free ∙ ap (left_at_rest false) b in
          let now = new_phase (Filling n) (ap (λ (l : Log). l.phase) after) in
          omega (arith, work_is g old Resting (old_phase Resting is), before, work_is g new (Filling n) now, ap length ahead)
  written_by n Closing is write ahead after = absurd write
  written_by n (Filling k) is write ahead after = absurd write
  written_by n (Filled k) is write ahead after =
      let now = new_phase (Opening k) (ap (λ (l : Log). l.phase) after ∙ ap (λ (p : Phase). (gated_in log p).phase) is) in
      omega (arith, work_is g old (Filled k) (old_phase (Filled k) is), work_is g new (Opening k) now, ap length ahead)
  written_by n (Opening k) is write ahead after = absurd write

  pub written_less : (n : ℕ) (f : Found) → IsWrite (due_of log) → t ≡ after s to_log f → new.engine.log ≡ written_in (due_of log) n log → work_of g new < work_of g old
  written_less n f write is after = written_by n log.phase refl write (ap (λ (x : Standing). x.ahead) is) after

  -- ---- a sync

  -- the cell whose gate was closed is free
  closed_free : (b : ℕ) (f : Found) → log.phase ≡ Closing → t ≡ after s Sync f → new.engine.log ≡ started b (synced_in log Closing) → nat_le (t.start + t.setting.cells) t.next ≡ false
  closed_free b f is moved after =
      let next : t.next ≡ log.next = ap (λ (l : Log). l.next) after in
      let start : log.start ≤ t.start = omega (arith, ap (λ (l : Log). l.start) after) in
      let cells : t.setting.cells ≡ log.cells = ap (λ (x : Standing). x.setting.cells) moved ∙ sym h.cells in
      let room : log.next + 1 ≤ log.start + log.cells = subst (λ (p : Phase). log.next + busy p ≤ log.start + log.cells) is h.room in
      grind (arith, nat_tests, next, start, cells, room)

  synced_by : (b : ℕ) (f : Found) (phase : Phase) → log.phase ≡ phase → due_in log phase ≡ to_sync → t ≡ after s Sync f → new.engine.log ≡ started b (synced_in log phase) → work_of g new < work_of g old
  synced_by b f Resting is due moved after = absurd (rests_no_sync log due)
  synced_by b f Closing is due moved after =
      let now = new_phase Resting (ap (λ (l : Log). l.phase) after) in
      let ahead : t.ahead ≡ s.ahead = ap (λ (x : Standing). x.ahead) moved ∙ ap (λ (p : Phase). drop (opening p) s.ahead) (old_phase Closing is) in
      let closed : stale_in new ≡ false = ap (λ (l : Log). stands_at l (index_of l)) after ∙ closed_at log.stands (index_of log) in
      let before : left_in t (stale_in new) Resting ≡ 4 = ap (λ x. left_at_rest x (stale_in new)) (closed_free b f is moved after) ∙ ap (left_at_rest false) closed in
      omega (arith, work_is g old Closing (old_phase Closing is), work_is g new Resting now, before, ap length ahead)
  synced_by b f (Filling k) is due moved after =
      let now = new_phase (Filled k) (ap (λ (l : Log). l.phase) after) in
      let ahead : t.ahead ≡ s.ahead = ap (λ (x : Standing). x.ahead) moved ∙ ap (λ (p : Phase). drop (opening p) s.ahead) (old_phase (Filling k) is) in
      omega (arith, work_is g old (Filling k) (old_phase (Filling k) is), work_is g new (Filled k) now, ap length ahead)
  synced_by b f (Filled k) is due moved after = absurd (let never : Gate ≡ to_sync = due in cc)
  synced_by b f (Opening k) is due moved after =
      let now = new_phase Resting (ap (λ (l : Log). l.phase) after) in
      let ahead : t.ahead ≡ drop k s.ahead = ap (λ (x : Standing). x.ahead) moved ∙ ap (λ (p : Phase). drop (opening p) s.ahead) (old_phase (Opening k) is) in
      let whole : HasAll k old.engine.block = subst (λ (p : Phase). IsWhole p old.engine.block) is h.whole in
      omega (arith, work_is g old (Opening k) (old_phase (Opening k) is), work_is g new Resting now, left_at_most_7 t (stale_in new) Resting, ap length ahead, length-drop k s.ahead, whole.all, whole.some, length-append old.engine.block old.backlog)

  pub synced_less : (b : ℕ) (f : Found) → due_of log ≡ to_sync → t ≡ after s Sync f → new.engine.log ≡ started b (after_sync log) → work_of g new < work_of g old
  synced_less b f due moved after = synced_by b f log.phase refl due moved after

  -- where the block isn't durable by it, the log still has a cell for it
  free_by : (b : ℕ) (f : Found) (phase : Phase) → log.phase ≡ phase → opening phase ≡ 0 → due_in log phase ≡ to_sync → t ≡ after s Sync f → new.engine.log ≡ started b (synced_in log phase) → is_full t ≡ false
  free_by b f Resting is none due moved after = absurd (rests_no_sync log due)
  free_by b f Closing is none due moved after = ap (is_full_in t) (new_phase Resting (ap (λ (l : Log). l.phase) after)) ∙ closed_free b f is moved after
  free_by b f (Filling k) is none due moved after = ap (is_full_in t) (new_phase (Filled k) (ap (λ (l : Log). l.phase) after))
  free_by b f (Filled k) is none due moved after = absurd (let never : Gate ≡ to_sync = due in cc)
  free_by b f (Opening k) is none due moved after = absurd (no_block k none (subst (λ (p : Phase). IsWhole p old.engine.block) is h.whole))
    where
      no_block : (k : ℕ) → k ≡ 0 → HasAll k old.engine.block → ⊥
      no_block k none whole = omega (arith, none, whole.some)

  pub synced_free : (b : ℕ) (f : Found) → due_of log ≡ to_sync → opening log.phase ≡ 0 → t ≡ after s Sync f → new.engine.log ≡ started b (after_sync log) → is_full t ≡ false
  synced_free b f due none moved after = free_by b f log.phase refl none due moved after

  -- ---- a checkpoint

  -- it began and ended where the log's next cell was live, so the log starts at that cell now
  made_free : (mid : Standing) (f : Found) → s.stage ≡ Off → mid ≡ after s Check f → Rests mid t → t.stage ≡ Off → nat_le (t.start + t.setting.cells) t.next ≡ false
  made_free mid f off began rests ended =
      let some : 0 < log.cells = omega (arith, h.cells, some_cells old.engine.checkpoint.base.params h.checkpoint.is_super.setting) in
      let cells : t.setting.cells ≡ log.cells = ap (λ (p : Setting). p.cells) rests.setting ∙ ap (λ (x : Standing). x.setting.cells) began ∙ sym h.cells in
      let stage : mid.stage ≡ Toward (record { position = s.durable; start = s.next }) (Flushing f.left) = ap (λ (x : Standing). x.stage) began ∙ ap (checked s f.left) off in
      let start : t.start ≡ s.next = sym (ap (start_of t.start) ended) ∙ rests.start ∙ ap (start_of mid.start) stage in
      let next : t.next ≡ s.next = rests.next ∙ ap (λ (x : Standing). x.next) began in
      grind (arith, nat_tests, start, next, cells, some)

  pub room_left : (mid : Standing) (f : Found) → s.stage ≡ Off → mid ≡ after s Check f → Rests mid t → t.stage ≡ Off → LeavesRoom s t
  room_left mid f off began rests ended = record {
    free = ap (is_full_in t) rests.phase ∙ made_free mid f off began rests ended;
    phase = rests.phase;
    next = rests.next ∙ ap (λ (x : Standing). x.next) began;
  }

  pub room_made : (mid : Standing) (f : Found) → due_of log ≡ Full → s.stage ≡ Off → mid ≡ after s Check f → Rests mid t → t.stage ≡ Off → work_of g new < work_of g old
  room_made mid f due off began rests ended =
      let full = full_due log due in
      let live : nat_le (s.start + s.setting.cells) s.next ≡ true = ap (λ c. nat_le (log.start + c) log.next) (sym h.cells) ∙ full.1 in
      let before : left_in s (stale_in old) Resting ≡ 7 = ap (λ x. left_at_rest x (stale_in old)) live in
      let ahead : t.ahead ≡ s.ahead = rests.ahead ∙ ap (λ (x : Standing). x.ahead) began in
      let after : left_in t (stale_in new) Resting ≤ 6 = subst (λ x. left_at_rest x (stale_in new) ≤ 6) (sym (made_free mid f off began rests ended)) (at_most_6 (stale_in new)) in
      omega (arith, work_is g old Resting (old_phase Resting full.0), before, work_is g new Resting rests.phase, after, ap length ahead)
