-- What a sync makes of a log, and what it makes of the facts.
use Rattle.std.specs.Prelude.{◌≡◌, ℕ, ◌+◌, List, [], take, drop}
use Rattle.rep_types.specs.declared.judged.Judged.{Judged}
use Rattle.rep_layout.specs.declared.place.Layout.{Layout}
use Rattle.rep_steps.specs.CellStates.{States}
use Rattle.rep_steps.specs.Phase.{Phase}
use Rattle.rep_steps.specs.Phase.TheVariants.{Opening}
use Rattle.rep_steps.specs.Tail.{records_of}
use Rattle.rep_steps.specs.LogStanding.{Standing as Log, LogIs}
use Rattle.rep_steps.specs.LogMoves.{blocks_synced, after_sync}
use Rattle.rep_steps.specs.Standings.{underway}
use Rattle.rep_steps.specs.Moves.{opening, taken, synced_phase}

-- the records on their way after it
abbrev pub left_sealed : Phase → List Judged → List Judged
left_sealed (Opening n) sealed = []
left_sealed phase sealed = sealed

-- The log's next block is as far as the facts have it, and its next cell is theirs. Where it starts a sync of the log alone changes
-- nothing. Where a node's items behind its base are durable up to `past`, its log has so many of them and those on their way are the next,
-- the same is so after it: of what is durable then, and of what is still on its way.
pub record TheSyncedLogIsTheFacts : Type 0 where
  pub phase : (log : Log) → (after_sync log).phase ≡ synced_phase log.phase
  pub next : (log : Log) → (after_sync log).next ≡ log.next + taken log.phase
  pub start : (log : Log) → (after_sync log).start ≡ log.start
  pub stands : (l : Layout) (log : Log) (first : ℕ) (blocks : List (List Judged)) (sealed : List Judged) (t : States)
      → LogIs l (after_sync log) first (blocks_synced log.phase blocks sealed) sealed t
      → LogIs l (after_sync log) first (blocks_synced log.phase blocks sealed) (left_sealed log.phase sealed) t
  pub durable : (phase : Phase) (blocks : List (List Judged)) (sealed items ahead : List Judged) (past : ℕ)
      → records_of blocks ≡ take past items → ahead ≡ drop past items → sealed ≡ take (underway phase) ahead
      → records_of (blocks_synced phase blocks sealed) ≡ take (past + opening phase) items
  pub coming : (phase : Phase) (sealed ahead : List Judged) → sealed ≡ take (underway phase) ahead
      → left_sealed phase sealed ≡ take (underway (synced_phase phase)) (drop (opening phase) ahead)
