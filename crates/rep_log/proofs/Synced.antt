-- What a sync makes of a log, and a later start.
use Rattle.std.proofs.Common.{◌≡◌, ◌≢◌, ℕ, ◌+◌, ◌-◌, ◌%◌, ◌<◌, ◌≤◌, Bool, true, false, List, [], ◌∷◌, ◌++◌, length, get_or, take, drop, refl, sym, ap, subst, ◌∙◌, arith, inl, inr, length-append, length-drop, length-set, get_or-set_same, get_or-set_other}
use Rattle.std.specs.Prelude.{min, max, slice_set}
use Rattle.std.proofs.lemmas.Bool.{cases_eq}
use Rattle.rep_types.specs.declared.judged.Judged.{Judged}
use Rattle.rep_types.specs.declared.limits.TheConstants.{MAX_SEQNO}
use Rattle.rep_record.specs.Blocks.{block_bytes}
use Rattle.rep_layout.specs.declared.place.Layout.{Layout}
use Rattle.rep_layout.specs.declared.place.Place.TheVariants.{Log}
use Rattle.rep_layout.specs.Places.{log_of}
use Rattle.rep_cells.specs.States.{State, States, Closed, Opened, synced, Syncs}
use Rattle.rep_log.specs.declared.phase.Phase.{Phase}
use Rattle.rep_log.specs.declared.phase.Phase.TheVariants.{Resting, Closing, Filling, Filled, Opening}
use Rattle.rep_log.specs.Tail.{IsBlockFrom, Stand, seqno_after, cell_in}
use Rattle.rep_log.specs.Standing.{Standing, stands_at, index_of, busy, AtRest, IsDue, StandsOpen, LogIs}
use Rattle.rep_log.specs.Moves.{synced_in, after_sync, blocks_synced, started, restarted, SyncsLog, StartsLater, Restarts}
use Rattle.rep_log.proofs.Blocks.{cell_is, stand_moved, stand_behind, stand_more, seqno_more, seqno_rest, stays_below}
use Rattle.rep_log.proofs.Cells.{log_is, index_small}
use Rattle.rep_log.proofs.Images.{later}

-- ---- a sync

-- what is at rest stays so
rest_synced : (stands : Bool) (l : Layout) (i next : ℕ) (s t : State) → t ≡ synced s → AtRest stands l i next s → AtRest stands l i next t
rest_synced false l i next s t e h = e ∙ ap synced h
rest_synced true l i next s t e h = (h.0, e ∙ ap synced h.1, h.2)

-- the same below a later number
rest_later : (stands : Bool) (l : Layout) (i m n : ℕ) (s : State) → m ≤ n → AtRest stands l i m s → AtRest stands l i n s
rest_later false l i m n s le h = h
rest_later true l i m n s le h = (h.0, h.1, later l i m n h.0 le h.2)

-- what stands open stays so
open_synced : (s t : States) (l : Layout) (n first : ℕ) (blocks : List (List Judged)) → Syncs s t → Stand (StandsOpen s l) n first blocks → Stand (StandsOpen t l) n first blocks
open_synced s t l n first blocks syncs h = stand_moved (StandsOpen s l) (StandsOpen t l) n first blocks (λ m body from to stands. syncs (log_of l m) ∙ ap synced stands) h

-- which cells stand open, where the next block's cell has changed
other_stands : (log : Standing) (l : Layout) (i : ℕ) (b : Bool) → l.cells ≡ log.cells → i ≢ log.next % l.cells → get_or (slice_set log.stands (index_of log) b) i false ≡ stands_at log i
other_stands log l i b cells other = get_or-set_other log.stands (index_of log) i b false (λ e. other (e ∙ ap (λ n. log.next % n) (sym cells)))

this_stands : (log : Standing) (l : Layout) (b : Bool) → l.cells ≡ log.cells → 0 < l.cells → l.cells ≤ length log.stands → get_or (slice_set log.stands (index_of log) b) (log.next % l.cells) false ≡ b
this_stands log l b cells some known =
    let same : log.next % l.cells ≡ index_of log = ap (λ n. log.next % n) cells in
    ap (λ i. get_or (slice_set log.stands (index_of log) b) i false) same
    ∙ get_or-set_same log.stands (index_of log) b false (omega (arith, same, index_small l log.next some, known))

-- the cells after the next block's has settled
all_rest :
    (l : Layout) (log : Standing) (b : Bool) (next first : ℕ) (blocks : List (List Judged)) (sealed : List Judged) (s t : States) → Syncs s t → LogIs l log first blocks sealed s → log.next ≤ next
    → AtRest b l (log.next % l.cells) next (t (Log (log.next % l.cells))) → (i : ℕ) → i < l.cells → AtRest (get_or (slice_set log.stands (index_of log) b) i false) l i next (t (Log i))
all_rest l log b next first blocks sealed s t syncs is le here i lt = elim (cases_eq i (log.next % l.cells)) [
  | inl same ↦ subst (λ j. AtRest (get_or (slice_set log.stands (index_of log) b) j false) l j next (t (Log j))) (sym same)
      (subst (λ c. AtRest c l (log.next % l.cells) next (t (Log (log.next % l.cells)))) (sym (this_stands log l b is.cells is.some is.known)) here)
  | inr other ↦ subst (λ c. AtRest c l i next (t (Log i))) (sym (other_stands log l i b is.cells other))
      (rest_later (stands_at log i) l i log.next next (t (Log i)) le (rest_synced (stands_at log i) l i log.next (s (Log i)) (t (Log i)) (syncs (Log i)) (is.rest i lt (λ busy_one. other))))
]

-- the log in this phase behind a sync that changes no cell's kind
stays_synced :
    (l : Layout) (log : Standing) (phase : Phase) (first : ℕ) (blocks : List (List Judged)) (sealed : List Judged) (s t : States) → Syncs s t → LogIs l log first blocks sealed s
    → busy phase ≡ busy log.phase → IsDue phase l (log.next % l.cells) log.next log.seqno sealed (t (log_of l log.next)) → LogIs l (record log { phase = phase }) first blocks sealed t
stays_synced l log phase first blocks sealed s t syncs is same due = record {
  cells = is.cells;
  some = is.some;
  known = is.known;
  starts = is.starts;
  limit = is.limit;
  live = open_synced s t l log.start first blocks syncs is.live;
  next = is.next;
  seqno = is.seqno;
  room = omega (arith, same, is.room);
  rest = λ i lt other. rest_synced (stands_at log i) l i log.next (s (Log i)) (t (Log i)) (syncs (Log i)) (is.rest i lt (λ b. other (same ∙ b)));
  due = due;
}

-- what is said of the next block's cell in the phase that the log is in
due_at : (l : Layout) (log : Standing) (phase : Phase) (first : ℕ) (blocks : List (List Judged)) (sealed : List Judged) (s : States) → log.phase ≡ phase → LogIs l log first blocks sealed s
    → IsDue phase l (log.next % l.cells) log.next log.seqno sealed (s (log_of l log.next))
due_at l log phase first blocks sealed s e is = subst (λ (p : Phase). IsDue p l (log.next % l.cells) log.next log.seqno sealed (s (log_of l log.next))) e is.due

-- a phase that the sync leaves
same_phase : {l : Layout} {log : Standing} {phase : Phase} {first : ℕ} {blocks : List (List Judged)} {sealed : List Judged} {t : States} → log.phase ≡ phase → LogIs l (record log { phase = phase }) first blocks sealed t → LogIs l log first blocks sealed t
same_phase {l} {log} {phase} {first} {blocks} {sealed} {t} e h = subst (λ (p : Phase). LogIs l (record log { phase = p }) first blocks sealed t) (sym e) h

-- the log at rest behind a sync by which the next block's cell has settled, with these blocks and this next one
settled :
    (l : Layout) (log : Standing) (b : Bool) (next seqno first : ℕ) (blocks after : List (List Judged)) (sealed : List Judged) (s t : States) → Syncs s t → LogIs l log first blocks sealed s → log.next ≤ next
    → AtRest b l (log.next % l.cells) next (t (Log (log.next % l.cells))) → Stand (StandsOpen t l) log.start first after → next ≡ log.start + length after → seqno ≡ seqno_after first after → next ≤ log.start + l.cells
    → LogIs l (record log { next = next; seqno = seqno; phase = Resting; stands = slice_set log.stands (index_of log) b }) first after sealed t
settled l log b next seqno first blocks after sealed s t syncs is le here live next_is seqno_is room = record {
  cells = is.cells;
  some = is.some;
  known = omega (arith, is.known, length-set log.stands (index_of log) b);
  starts = is.starts;
  limit = is.limit;
  live = live;
  next = next_is;
  seqno = seqno_is;
  room = omega (arith, room);
  rest = λ i lt other. all_rest l log b next first blocks sealed s t syncs is le here i lt;
  due = tt;
}

-- the log after a sync, by the phase before it
synced_by :
    (l : Layout) (log : Standing) (phase : Phase) (first : ℕ) (blocks : List (List Judged)) (sealed : List Judged) (s t : States) → log.phase ≡ phase → Syncs s t → LogIs l log first blocks sealed s
    → LogIs l (synced_in log phase) first (blocks_synced phase blocks sealed) sealed t
synced_by l log Resting first blocks sealed s t e syncs is = same_phase e (stays_synced l log Resting first blocks sealed s t syncs is (ap busy (sym e)) tt)
synced_by l log Closing first blocks sealed s t e syncs is =
    let due = due_at l log Closing first blocks sealed s e is in
    let closed : t (Log (log.next % l.cells)) ≡ Closed = ap t (sym (log_is l log.next is.some)) ∙ syncs (log_of l log.next) ∙ ap synced due.1 in
    settled l log false log.next log.seqno first blocks blocks sealed s t syncs is (omega arith) closed (open_synced s t l log.start first blocks syncs is.live) is.next is.seqno (omega (arith, is.room))
synced_by l log (Filling n) first blocks sealed s t e syncs is =
    let due = due_at l log (Filling n) first blocks sealed s e is in
    stays_synced l log (Filled n) first blocks sealed s t syncs is (ap busy (sym e)) (record { state_is = syncs (log_of l log.next) ∙ ap synced due.state_is; size = due.size; block = due.block })
synced_by l log (Filled n) first blocks sealed s t e syncs is =
    let due = due_at l log (Filled n) first blocks sealed s e is in
    same_phase e (stays_synced l log (Filled n) first blocks sealed s t syncs is (ap busy (sym e)) (record { state_is = syncs (log_of l log.next) ∙ ap synced due.state_is; size = due.size; block = due.block }))
synced_by l log (Opening n) first blocks sealed s t e syncs is =
    let due = due_at l log (Opening n) first blocks sealed s e is in
    let one : busy log.phase ≡ 1 = ap busy e in
    let there : log_of l log.next ≡ Log (log.next % l.cells) = log_is l log.next is.some in
    let opened : t (log_of l log.next) ≡ Opened (block_bytes log.next sealed) = syncs (log_of l log.next) ∙ ap synced due.state_is in
    let number : cell_in (block_bytes log.next sealed) ≡ log.next = cell_is log.next sealed due.block.is_block in
    settled l log true (log.next + 1) (log.seqno + n) first blocks (blocks ++ sealed ∷ []) sealed s t syncs is (omega arith)
    (block_bytes log.next sealed, ap t (sym there) ∙ opened, record { in_place = ap (log_of l) number ∙ there; below = omega (arith, number) })
    (stand_more (StandsOpen t l) log.start first blocks sealed (open_synced s t l log.start first blocks syncs is.live)
    (subst (λ m. StandsOpen t l m (block_bytes m sealed)) is.next opened) (subst (λ m. IsBlockFrom m (seqno_after first blocks) sealed) is.next (subst (λ m. IsBlockFrom log.next m sealed) is.seqno due.block)))
    (omega (arith, is.next, length-append blocks (sealed ∷ []))) (omega (arith, is.seqno, due.size, seqno_more first blocks sealed)) (omega (arith, one, is.room))

pub log_synced : (log : Standing) → SyncsLog log (after_sync log)
log_synced log l s t first blocks sealed syncs is = synced_by l log log.phase first blocks sealed s t refl syncs is

-- ---- a later start

pub log_started : (log : Standing) (start : ℕ) → StartsLater log (started start log)
log_started log start l s first blocks sealed is =
    let new = max log.start (min start log.next) in
    let k = new - log.start in
    let few : k ≤ length blocks = omega (arith, is.next) in
    let same : log.start + k ≡ new = omega arith in
    let place = stays_below (StandsOpen s l) k log.start first blocks few is.live (record { below = is.starts; limit = is.limit }) in
    record {
      cells = is.cells;
      some = is.some;
      known = is.known;
      starts = omega (arith, same, place.below);
      limit = place.limit;
      live = subst (λ n. Stand (StandsOpen s l) n (seqno_after first (take k blocks)) (drop k blocks)) same (stand_behind (StandsOpen s l) k log.start first blocks is.live);
      next = omega (arith, is.next, same, few, length-drop k blocks);
      seqno = is.seqno ∙ sym (seqno_rest k first blocks);
      room = omega (arith, is.room, same);
      rest = is.rest;
      due = is.due;
    }

-- ---- behind a state from elsewhere

pub log_restarted : (log : Standing) (seqno : ℕ) → log.next < seqno → seqno ≤ MAX_SEQNO + 1 → Restarts seqno log (restarted seqno log)
log_restarted log seqno later limit l s first blocks sealed resting is = record {
  cells = is.cells;
  some = is.some;
  known = is.known;
  starts = later;
  limit = limit;
  live = tt;
  next = omega arith;
  seqno = refl;
  room = omega (arith, ap busy resting, is.some);
  rest = λ i lt other. is.rest i lt (λ one. absurd (omega (arith, one, ap busy resting)));
  due = subst (λ (p : Phase). IsDue p l (log.next % l.cells) log.next seqno [] (s (log_of l log.next))) (sym resting) tt;
}
