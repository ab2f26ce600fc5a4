-- A call on the next block's cell, where it is due.
use Rattle.std.proofs.Common.{◌≡◌, ℕ, ◌+◌, ◌%◌, ◌<◌, ◌≤◌, Bool, true, false, cond, eqb, leb, List, length, Option, Some, None, Result, Ok, Err, refl, sym, ap, subst, ◌∙◌, arith, OnOk, OnErr, IfErr}
use Rattle.std.specs.Prelude.{◌&&◌}
use Rattle.std.proofs.lemmas.Bool.{eqb-true, leb-false}
use Rattle.rep_types.specs.declared.limits.TheConstants.{MAX_SEQNO}
use Rattle.rep_types.specs.declared.judged.Judged.{Judged}
use Rattle.rep_types.specs.declared.refusal.Refusal.{Refusal}
use Rattle.rep_types.specs.declared.refusal.Refusal.TheVariants.{NotDue, DiskFault}
use Rattle.rep_forms.specs.FormLaws.{conjuncts}
use Rattle.rep_record.specs.Blocks.{IsBlock, SeqnosFrom, first_seqno, block_bytes}
use Rattle.rep_disk.specs.declared.disk.Disk.{Ghosts}
use Rattle.rep_disk.specs.History.{History}
use Rattle.rep_disk.specs.declared.disk.DiskFault.{DiskFault as Fault}
use Rattle.rep_layout.specs.declared.place.Layout.{Layout}
use Rattle.rep_layout.specs.declared.place.Place.{Place}
use Rattle.rep_layout.specs.declared.place.Place.TheVariants.{Log}
use Rattle.rep_layout.specs.Places.{log_of, TurnsAreTaken}
use Rattle.rep_cells.specs.States.{State, States, filling, opening, closing}
use Rattle.rep_cells.specs.Calls.{WritesOnly, WritesIn, Stepped, StepsAt}
use Rattle.rep_log.specs.declared.phase.Phase.{Phase}
use Rattle.rep_log.specs.declared.phase.Phase.TheVariants.{Resting, Closing as is_closing, Filling as is_filling, Filled as is_filled, Opening as is_opening}
use Rattle.rep_log.specs.declared.phase.Step.TheVariants.{Recycle, Seal, Gate, Full}
use Rattle.rep_log.specs.Standing.{Standing, stands_at, index_of, due_at_rest, due_in, due_of, busy, AtRest, IsDue, StandsOpen, LogIs}
use Rattle.rep_log.specs.Moves.{unless_due, step_refusal, seal_refusal, fault_of, IsStep}
use Rattle.rep_log.proofs.Blocks.{last_small, stand_moved}
use Rattle.rep_log.proofs.Cells.{log_is, index_small, other_cell}

-- ---- what the device answered, as a refusal

ok_as : (result : Result (Unit {0}) Refusal) (P : Type 0) → OnOk (fault_of result) P → OnOk result P
ok_as (Ok x) P h = h
ok_as (Err e) P h = tt

err_as : (result : Result (Unit {0}) Refusal) (P : Type 0) → IfErr result (λ e. e ≡ DiskFault) → OnErr (fault_of result) P → OnErr result P
err_as (Ok x) P only h = tt
err_as (Err e) P only h = subst (λ (f : Refusal). OnErr (fault_of {T = Unit {0}} (Err f)) P) only h

-- ---- the next block's cell

-- What a step in the next block's cell makes of a log, where it is due: the cell isn't live, and its state is what is said of it
-- in the new phase.
abbrev pub IsDueFor : Layout → Standing → Phase → (List Judged → List Judged) → (State → State) → Type 0
IsDueFor l log phase coming step =
    (s : States) (first : ℕ) (blocks : List (List Judged)) (sealed : List Judged) → LogIs l log first blocks sealed s
    → (log.next + 1 ≤ log.start + l.cells) × IsDue phase l (log.next % l.cells) log.next log.seqno (coming sealed) (step (s (log_of l log.next)))

moved :
    {T E : Type 0} → TurnsAreTaken → (l : Layout) (old new : History) (s : States) (log : Standing) (phase : Phase) (first : ℕ) (blocks : List (List Judged)) (sealed coming : List Judged) (step : State → State) (result : Result T E)
    → busy phase ≡ 1 → LogIs l log first blocks sealed s → log.next + 1 ≤ log.start + l.cells
    → IsDue phase l (log.next % l.cells) log.next log.seqno coming (step (s (log_of l log.next)))
    → (stepped : Stepped l old new s (log_of l log.next) step result) → LogIs l (record log { phase = phase }) first blocks coming stepped.after
moved turns l old new s log phase first blocks sealed coming step result writes is room due stepped = record {
  cells = is.cells;
  some = is.some;
  known = is.known;
  starts = is.starts;
  limit = is.limit;
  live = stand_moved (StandsOpen s l) (StandsOpen stepped.after l) log.start first blocks
      (λ m body from to stands. stepped.moves.elsewhere (log_of l m) (turns.apart l m log.next (omega (arith, to, is.next)) (omega (arith, room, from))) ∙ stands) is.live;
  next = is.next;
  seqno = is.seqno;
  room = omega (arith, writes, room);
  rest = λ i lt other. subst (AtRest (stands_at log i) l i log.next) (sym (stepped.moves.elsewhere (Log i) (other_cell l i log.next is.some (other writes)))) (is.rest i lt (λ b. other writes));
  due = subst (IsDue phase l (log.next % l.cells) log.next log.seqno coming) (sym stepped.moves.there) due;
}

pub step_is :
    {D : Type 0} → TurnsAreTaken → (g : Ghosts D) (l : Layout) (log : Standing) (phase : Phase) (coming : List Judged → List Judged) (at : ℕ) (bytes : List ℕ) (old new : D)
    (step : State → State) (result : Result (Unit {0}) Refusal)
    → busy phase ≡ 1 → IsDueFor l log phase coming step → IfErr result (λ e. e ≡ DiskFault)
    → WritesOnly g at bytes old new (fault_of result) → WritesIn g l (log_of l log.next) old new (fault_of result) → StepsAt g l (log_of l log.next) step old new (fault_of result)
    → IsStep g l log (record log { phase = phase }) (record log { phase = phase }) coming at bytes old new result
step_is turns g l log phase coming at bytes old new step result writes due only written inside steps = record {
  stands = refl;
  fault = only;
  written = λ h. record { done = ok_as result _ (written h).done; failed = err_as result _ only (written h).failed };
  inside = λ h. ok_as result _ (inside h);
  steps = λ h s first blocks sealed assigns is.
      let stepped = steps h s assigns in
      let is_due = due s first blocks sealed is in
      record {
        states = stepped.after;
        elsewhere = λ place other. stepped.moves.elsewhere place (λ e. other (log.next % l.cells) (e ∙ log_is l log.next is.some));
        log_is = moved turns l (g.history old) (g.history new) s log phase first blocks sealed (coming sealed) step (fault_of result) writes is is_due.0 is_due.1 stepped;
        reaches = record { ok = ok_as result _ stepped.reaches.ok; images = stepped.reaches.images; moments = stepped.reaches.moments };
      };
}

-- ---- when a step is due

-- the test that comes first holds
pub same_cells : (b : Bool) (rest : Option Refusal) → cond b rest (Some NotDue) ≡ None → (b ≡ true) × (rest ≡ None)
same_cells true rest e = (refl, e)
same_cells false rest e = absurd cc

-- The next block's cell is free, and stands open over an old block or not.
pub record IsFree (log : Standing) (stands : Bool) : Type 0 where
  pub rests : log.phase ≡ Resting
  pub room : log.next < log.start + log.cells
  pub stands_so : stands_at log (index_of log) ≡ stands

-- whether the cell is live and whether it stands open, where a step is due at rest
recycle_tests : (full stands : Bool) → unless_due Recycle (cond full Full (cond stands Recycle Seal)) ≡ None → (full ≡ false) × (stands ≡ true)
recycle_tests true stands e = absurd cc
recycle_tests false true e = (refl, refl)
recycle_tests false false e = absurd cc

seal_tests : (full stands : Bool) → unless_due Seal (cond full Full (cond stands Recycle Seal)) ≡ None → (full ≡ false) × (stands ≡ false)
seal_tests true stands e = absurd cc
seal_tests false true e = absurd cc
seal_tests false false e = (refl, refl)

recycle_at : (log : Standing) (phase : Phase) → unless_due Recycle (due_in log phase) ≡ None → (phase ≡ Resting) × (unless_due Recycle (due_at_rest log) ≡ None)
recycle_at log Resting e = (refl, e)
recycle_at log _ e = absurd cc

seal_at : (log : Standing) (phase : Phase) → unless_due Seal (due_in log phase) ≡ None → (phase ≡ Resting) × (unless_due Seal (due_at_rest log) ≡ None)
seal_at log Resting e = (refl, e)
seal_at log _ e = absurd cc

gate_at : (log : Standing) (phase : Phase) → unless_due Gate (due_in log phase) ≡ None → (n : ℕ) × (phase ≡ is_filled n)
gate_at log Resting e = absurd (not_at_rest _ _ e)
  where
    not_at_rest : (full stands : Bool) → unless_due Gate (cond full Full (cond stands Recycle Seal)) ≡ None → ⊥
    not_at_rest true stands f = absurd cc
    not_at_rest false true f = absurd cc
    not_at_rest false false f = absurd cc
gate_at log (is_filled n) e = (n, refl)
gate_at log _ e = absurd cc

pub recycle_free : (l : Layout) (log : Standing) → step_refusal Recycle l log ≡ None → IsFree log true
recycle_free l log e =
    let a = recycle_at log log.phase (same_cells (eqb l.cells log.cells) (unless_due Recycle (due_of log)) e).1 in
    let b = recycle_tests (leb (log.start + log.cells) log.next) (stands_at log (index_of log)) a.1 in
    record { rests = a.0; room = leb-false (log.start + log.cells) log.next b.0; stands_so = b.1 }

pub seal_free : (l : Layout) (log : Standing) (records : List Judged) → seal_refusal l log records ≡ None → IsFree log false × (first_seqno records ≡ log.seqno)
seal_free l log records e =
    let t = same_cells (eqb l.cells log.cells && eqb (first_seqno records) log.seqno) (unless_due Seal (due_of log)) e in
    let a = seal_at log log.phase t.1 in
    let b = seal_tests (leb (log.start + log.cells) log.next) (stands_at log (index_of log)) a.1 in
    (record { rests = a.0; room = leb-false (log.start + log.cells) log.next b.0; stands_so = b.1 }, eqb-true (first_seqno records) log.seqno (conjuncts (eqb l.cells log.cells) (eqb (first_seqno records) log.seqno) t.0).1)

pub gate_filled : (l : Layout) (log : Standing) → step_refusal Gate l log ≡ None → (n : ℕ) × (log.phase ≡ is_filled n)
gate_filled l log e = gate_at log log.phase (same_cells (eqb l.cells log.cells) (unless_due Gate (due_of log)) e).1

-- ---- what is due

-- the next block's cell, where it is free
free_cell : (l : Layout) (log : Standing) (stands : Bool) (s : States) (first : ℕ) (blocks : List (List Judged)) (sealed : List Judged) → IsFree log stands → LogIs l log first blocks sealed s
    → (log.next + 1 ≤ log.start + l.cells) × AtRest stands l (log.next % l.cells) log.next (s (log_of l log.next))
free_cell l log stands s first blocks sealed free is =
    let at = log.next % l.cells in
    let same : at ≡ index_of log = ap (λ n. log.next % n) is.cells in
    let idle : busy log.phase ≡ 0 = ap busy free.rests in
    let rest : AtRest (stands_at log at) l at log.next (s (Log at)) = is.rest at (index_small l log.next is.some) (λ b. absurd (omega (arith, idle, b))) in
    (omega (arith, free.room, is.cells), subst (λ p. AtRest stands l at log.next (s p)) (sym (log_is l log.next is.some)) (subst (λ b. AtRest b l at log.next (s (Log at))) (ap (stands_at log) same ∙ free.stands_so) rest))

pub recycle_is_due : (l : Layout) (log : Standing) → step_refusal Recycle l log ≡ None → IsDueFor l log is_closing (λ sealed. sealed) closing
recycle_is_due l log e s first blocks sealed is =
    let cell = free_cell l log true s first blocks sealed (recycle_free l log e) is in
    (cell.0, (cell.1.0, ap closing cell.1.1, cell.1.2))

pub seal_is_due : (l : Layout) (log : Standing) (records : List Judged) → seal_refusal l log records ≡ None → IsBlock log.next records → IsDueFor l log (is_filling (length records)) (λ sealed. records) (filling (block_bytes log.next records))
seal_is_due l log records e block s first blocks sealed is =
    let free = seal_free l log records e in
    let cell = free_cell l log false s first blocks sealed free.0 is in
    (cell.0, record { state_is = ap (filling (block_bytes log.next records)) cell.1; size = refl; block = record { is_block = block; follow = subst (λ n. SeqnosFrom n records) free.1 block.follow } })

-- a block that is sealed keeps the limit of seqnos
pub seal_small : (l : Layout) (log : Standing) (records : List Judged) → seal_refusal l log records ≡ None → IsBlock log.next records → log.seqno ≤ MAX_SEQNO + 1 → log.seqno + length records ≤ MAX_SEQNO + 1
seal_small l log records e block small = last_small log.seqno records small block.are_records (subst (λ n. SeqnosFrom n records) (seal_free l log records e).1 block.follow)

gate_in : (l : Layout) (log : Standing) (n : ℕ) (phase : Phase) (s : States) (sealed : List Judged) → phase ≡ is_filled n → IsDue phase l (log.next % l.cells) log.next log.seqno sealed (s (log_of l log.next))
    → IsDue (is_opening n) l (log.next % l.cells) log.next log.seqno sealed (opening (s (log_of l log.next)))
gate_in l log n phase s sealed e due =
    let was = subst (λ (p : Phase). IsDue p l (log.next % l.cells) log.next log.seqno sealed (s (log_of l log.next))) e due in
    record { state_is = ap opening was.state_is; size = was.size; block = was.block }

pub gate_is_due : (l : Layout) (log : Standing) (n : ℕ) → log.phase ≡ is_filled n → IsDueFor l log (is_opening n) (λ sealed. sealed) opening
gate_is_due l log n e s first blocks sealed is =
    let one : busy log.phase ≡ 1 = ap busy e in
    (omega (arith, one, is.room), gate_in l log n log.phase s sealed e is.due)

-- a step, as the call makes it
pub step_at :
    {D : Type 0} → TurnsAreTaken → (g : Ghosts D) (l : Layout) (log after : Standing) (phase : Phase) (coming : List Judged → List Judged) (place : Place) (at : Place → ℕ) (bytes : List ℕ) (old new : D)
    (step : State → State) (answer : Result (Unit {0}) Fault) (result : Result (Unit {0}) Refusal)
    → busy phase ≡ 1 → IsDueFor l log phase coming step → IfErr result (λ e. e ≡ DiskFault) → place ≡ log_of l log.next → after ≡ record log { phase = phase } → fault_of result ≡ answer
    → WritesOnly g (at place) bytes old new answer → WritesIn g l place old new answer → StepsAt g l place step old new answer
    → IsStep g l log after (record log { phase = phase }) coming (at (log_of l log.next)) bytes old new result
step_at {D} turns g l log after phase coming place at bytes old new step answer result writes due only there stands fault written inside steps =
    subst (λ (x : Standing). IsStep g l log x (record log { phase = phase }) coming (at (log_of l log.next)) bytes old new result) (sym stands)
    (step_is turns g l log phase coming (at (log_of l log.next)) bytes old new step result writes due only
    (subst (λ (r : Result (Unit {0}) Fault). WritesOnly g (at (log_of l log.next)) bytes old new r) (sym fault) (subst (λ (p : Place). WritesOnly g (at p) bytes old new answer) there written))
    (subst (λ (r : Result (Unit {0}) Fault). WritesIn g l (log_of l log.next) old new r) (sym fault) (subst (λ (p : Place). WritesIn g l p old new answer) there inside))
    (subst (λ (r : Result (Unit {0}) Fault). StepsAt g l (log_of l log.next) step old new r) (sym fault) (subst (λ (p : Place). StepsAt g l p step old new answer) there steps)))

-- the same to a standing that is said otherwise
pub step_to :
    {D : Type 0} {g : Ghosts D} {l : Layout} {log after here to : Standing} {coming : List Judged → List Judged} {at : ℕ} {bytes : List ℕ} {old new : D} {result : Result (Unit {0}) Refusal}
    → here ≡ to → IsStep g l log after here coming at bytes old new result → IsStep g l log after to coming at bytes old new result
step_to {g = g} {l = l} {log = log} {after = after} {coming = coming} {at = at} {bytes = bytes} {old = old} {new = new} {result = result} e h = subst (λ (to : Standing). IsStep g l log after to coming at bytes old new result) e h

-- nothing was refused
pub not_refused : (o : Option Refusal) → ((e : Refusal) → o ≡ Some e → ⊥) → o ≡ None
not_refused None h = refl
not_refused (Some e) h = absurd (h e refl)
