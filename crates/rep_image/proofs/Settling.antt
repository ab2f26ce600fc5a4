-- What a sync leaves of a log and of the items in it.
use Rattle.std.proofs.Common.{◌≡◌, refl, sym, ap, subst, ◌∙◌, ℕ, ◌+◌, ◌%◌, List, [], ◌∷◌, ◌++◌, append-nil, take, drop, arith}
use Rattle.std.proofs.Math.Seq.{take-add}
use Rattle.rep_types.specs.declared.judged.Judged.{Judged}
use Rattle.rep_layout.specs.declared.place.Layout.{Layout}
use Rattle.rep_layout.specs.Places.{log_of}
use Rattle.rep_steps.specs.CellStates.{States}
use Rattle.rep_steps.specs.Phase.{Phase}
use Rattle.rep_steps.specs.Phase.TheVariants.{Resting, Closing, Filling, Filled, Opening}
use Rattle.rep_steps.specs.Tail.{records_of}
use Rattle.rep_steps.specs.LogStanding.{Standing as Log, LogIs, IsDue}
use Rattle.rep_steps.specs.LogMoves.{synced_in, blocks_synced}
use Rattle.rep_steps.specs.Standings.{underway}
use Rattle.rep_steps.specs.Moves.{opening, taken, synced_phase}
use Rattle.rep_image.specs.Syncs.{left_sealed, TheSyncedLogIsTheFacts}
use Rattle.rep_image.proofs.Leaving.{records-append}

-- ---- the log

phase_synced : (log : Log) (phase : Phase) → log.phase ≡ phase → (synced_in log phase).phase ≡ synced_phase phase
phase_synced log Resting e = e
phase_synced log Closing e = refl
phase_synced log (Filling n) e = refl
phase_synced log (Filled n) e = e
phase_synced log (Opening n) e = refl

next_synced : (log : Log) (phase : Phase) → (synced_in log phase).next ≡ log.next + taken phase
next_synced log Resting = omega arith
next_synced log Closing = omega arith
next_synced log (Filling n) = omega arith
next_synced log (Filled n) = omega arith
next_synced log (Opening n) = refl

start_synced : (log : Log) (phase : Phase) → (synced_in log phase).start ≡ log.start
start_synced log Resting = refl
start_synced log Closing = refl
start_synced log (Filling n) = refl
start_synced log (Filled n) = refl
start_synced log (Opening n) = refl

-- ---- the blocks and their records

-- while nothing is on its way the log may hold any
resealed : (l : Layout) (log : Log) (first : ℕ) (blocks : List (List Judged)) (sealed : List Judged) (s : States) → log.phase ≡ Resting → LogIs l log first blocks sealed s → LogIs l log first blocks [] s
resealed l log first blocks sealed s rests is = record {
  cells = is.cells;
  some = is.some;
  known = is.known;
  starts = is.starts;
  limit = is.limit;
  live = is.live;
  next = is.next;
  seqno = is.seqno;
  room = is.room;
  rest = is.rest;
  due = subst (λ (p : Phase). IsDue p l (log.next % l.cells) log.next log.seqno [] (s (log_of l log.next))) (sym rests) tt;
}

log_synced : (l : Layout) (log : Log) (first : ℕ) (blocks : List (List Judged)) (sealed : List Judged) (t : States) (phase : Phase) → log.phase ≡ phase → LogIs l (synced_in log phase) first (blocks_synced phase blocks sealed) sealed t
    → LogIs l (synced_in log phase) first (blocks_synced phase blocks sealed) (left_sealed phase sealed) t
log_synced l log first blocks sealed t Resting e is = is
log_synced l log first blocks sealed t Closing e is = is
log_synced l log first blocks sealed t (Filling n) e is = is
log_synced l log first blocks sealed t (Filled n) e is = is
log_synced l log first blocks sealed t (Opening n) e is = resealed l (synced_in log (Opening n)) first (blocks ++ sealed ∷ []) sealed t refl is

-- the durable items
records_synced : (phase : Phase) (blocks : List (List Judged)) (sealed items ahead : List Judged) (past : ℕ) → records_of blocks ≡ take past items → ahead ≡ drop past items → sealed ≡ take (underway phase) ahead
    → records_of (blocks_synced phase blocks sealed) ≡ take (past + opening phase) items
records_synced Resting blocks sealed items ahead past held rest coming = held ∙ ap (λ k. take k items) (omega arith)
records_synced Closing blocks sealed items ahead past held rest coming = held ∙ ap (λ k. take k items) (omega arith)
records_synced (Filling n) blocks sealed items ahead past held rest coming = held ∙ ap (λ k. take k items) (omega arith)
records_synced (Filled n) blocks sealed items ahead past held rest coming = held ∙ ap (λ k. take k items) (omega arith)
records_synced (Opening n) blocks sealed items ahead past held rest coming =
    records-append blocks (sealed ∷ []) ∙ ap (λ js. records_of blocks ++ js) (append-nil sealed) ∙ ap (λ js. js ++ sealed) held
    ∙ ap (λ js. take past items ++ js) (coming ∙ ap (take n) rest) ∙ sym (take-add past n items)

-- those on their way
coming_synced : (phase : Phase) (sealed ahead : List Judged) → sealed ≡ take (underway phase) ahead → left_sealed phase sealed ≡ take (underway (synced_phase phase)) (drop (opening phase) ahead)
coming_synced Resting sealed ahead coming = coming
coming_synced Closing sealed ahead coming = coming
coming_synced (Filling n) sealed ahead coming = coming
coming_synced (Filled n) sealed ahead coming = coming
coming_synced (Opening n) sealed ahead coming = refl

pub synced_log : TheSyncedLogIsTheFacts
synced_log = record {
  phase = λ log. phase_synced log log.phase refl;
  next = λ log. next_synced log log.phase;
  start = λ log. start_synced log log.phase;
  stands = λ l log first blocks sealed t. log_synced l log first blocks sealed t log.phase refl;
  durable = records_synced;
  coming = coming_synced;
}
