-- What a block that is appended comes to, and what a stop leaves of it.
use Rattle.std.specs.Prelude.{◌≡◌, ◌⊎◌, ℕ, ◌+◌, ◌≤◌, List, [], ◌∷◌, ◌++◌, length, take, drop, Result, OnOk}
use Rattle.rep_types.specs.declared.judged.Judged.{Judged}
use Rattle.rep_disk.specs.History.{History, IsImage}
use Rattle.rep_disk.specs.Moments.{LeavesOnly}
use Rattle.rep_layout.specs.declared.place.Layout.{Layout}
use Rattle.rep_cells.specs.Readings.{reading_of}
use Rattle.rep_cells.specs.States.{States, Allowed}
use Rattle.rep_cells.specs.Known.{Assigns}
use Rattle.rep_log.specs.Tail.{IsLog, seqno_after, records_of}
use Rattle.rep_log.specs.Standing.{Standing, LogIs}
use Rattle.rep_log.specs.Moves.{blocks_synced}
use Rattle.rep_log.specs.Laws.{MayHold}
use Rattle.rep_log.specs.Scanning.{Finds}

-- A sync of the log: where it succeeds the log holds what that made durable. At every moment within, also where it failed, the
-- places read as the states before it allow.
pub record Settles {T E : Type 0} (l : Layout) (old new : History) (s : States) (before after : Standing) (first : ℕ) (blocks : List (List Judged)) (sealed : List Judged) (result : Result T E) : Type 0 where
  pub done : OnOk result ((t : States) × Assigns l new t × LogIs l after first (blocks_synced before.phase blocks sealed) sealed t)
  pub images : (image : List ℕ) → IsImage new image → Allowed l s (reading_of l image)
  pub moments : LeavesOnly old new (IsImage new)

-- The image holds these blocks, or them and this one.
abbrev pub HoldsOneOf : Layout → ℕ → ℕ → List (List Judged) → List Judged → List ℕ → Type 0
HoldsOneOf l start first blocks records image = (held : List (List Judged)) × ((held ≡ blocks) ⊎ (held ≡ blocks ++ records ∷ [])) × IsLog (reading_of l image) l start first held

-- Where it succeeds the log holds the block too. At every moment within, also where it failed, the image holds the log with or
-- without it.
pub record Appends {T E : Type 0} (l : Layout) (old new : History) (start : ℕ) (after : Standing) (first : ℕ) (blocks : List (List Judged)) (records : List Judged) (result : Result T E) : Type 0 where
  pub done : OnOk result ((t : States) × Assigns l new t × LogIs l after first (blocks ++ records ∷ []) records t)
  pub moments : LeavesOnly old new (HoldsOneOf l start first blocks records)

-- What is found in an image, from any durable block on or behind the last, are the records of the log's blocks from there on,
-- with or without those of the block whose gate opens.
abbrev pub WhatAStopLeavesIsFound : Type 0
WhatAStopLeavesIsFound =
    (l : Layout) (h : History) (s : States) (image : List ℕ) (log again : Standing) (first k : ℕ) (blocks : List (List Judged)) (sealed items : List Judged)
    → Assigns l h s → IsImage h image → LogIs l log first blocks sealed s → k ≤ length blocks
    → Finds l image (log.start + k) (seqno_after first (take k blocks)) again items
    → (held : List (List Judged)) × MayHold log.phase blocks sealed held × (items ≡ records_of (drop k held))
