-- What follows from how a log stands.
use Rattle.std.specs.Prelude.{◌≡◌, ◌⊎◌, ℕ, ◌+◌, ◌<◌, ◌≤◌, List, [], ◌∷◌, ◌++◌, length, take, drop}
use Rattle.rep_types.specs.declared.judged.Judged.{Judged}
use Rattle.rep_layout.specs.declared.place.Layout.{Layout}
use Rattle.rep_cells.specs.Readings.{Reading}
use Rattle.rep_cells.specs.States.{States, Allowed}
use Rattle.rep_log.specs.declared.phase.Phase.{Phase}
use Rattle.rep_log.specs.declared.phase.Phase.TheVariants.{Opening}
use Rattle.rep_log.specs.Tail.{Stand, Shows, IsLog, seqno_after}
use Rattle.rep_log.specs.Standing.{Standing, StandsOpen, LogIs}

-- what an image may hold: the durable blocks, or while a gate opens those with the block behind it
abbrev pub MayHold : Phase → List (List Judged) → List Judged → List (List Judged) → Type 0
MayHold phase blocks sealed held = (held ≡ blocks) ⊎ ((n : ℕ) × (phase ≡ Opening n) × (held ≡ blocks ++ sealed ∷ []))

-- From each of its blocks on, and from behind the last, a reading's log is those.
abbrev pub HoldsFrom : Reading → Layout → ℕ → ℕ → List (List Judged) → Type 0
HoldsFrom r l from first blocks = (k : ℕ) → k ≤ length blocks → IsLog r l (from + k) (seqno_after first (take k blocks)) (drop k blocks)

-- In every image the log is the durable blocks, or those with the block whose gate opens; and so it is from each start on up to
-- the next block.
abbrev pub TheLogInEveryImage : Type 0
TheLogInEveryImage =
    (l : Layout) (s : States) (r : Reading) (log : Standing) (first : ℕ) (blocks : List (List Judged)) (sealed : List Judged)
    → LogIs l log first blocks sealed s → Allowed l s r
    → (held : List (List Judged)) × MayHold log.phase blocks sealed held × HoldsFrom r l log.start first held

-- Blocks whose cells stand open are shown by every reading that the states allow.
abbrev pub OpenBlocksAreShown : Type 0
OpenBlocksAreShown =
    (l : Layout) (s : States) (r : Reading) (n seqno : ℕ) (blocks : List (List Judged)) → 0 < l.cells → Allowed l s r → Stand (StandsOpen s l) n seqno blocks → Stand (Shows r l) n seqno blocks

-- A reading has one log at most from a block on, and it has no more blocks than there are cells. Of two runs of blocks that it shows from
-- one block on the shorter begins the longer.
pub record TheLogIsTold : Type 0 where
  pub only : (r : Reading) (l : Layout) (from first : ℕ) (a b : List (List Judged)) → 0 < l.cells → IsLog r l from first a → IsLog r l from first b → a ≡ b
  pub few : (r : Reading) (l : Layout) (from first : ℕ) (blocks : List (List Judged)) → 0 < l.cells → IsLog r l from first blocks → length blocks ≤ l.cells
  pub begins : (r : Reading) (l : Layout) (n seqno : ℕ) (a b : List (List Judged)) → length a ≤ length b → Stand (Shows r l) n seqno a → Stand (Shows r l) n seqno b → take (length a) b ≡ a
