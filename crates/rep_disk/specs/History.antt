-- What was asked of a disk, and what follows from it. A disk that keeps the model of disks (an honest one) is in each
-- respect what its history says: what it reads as, what is stable, which ranges are pending, and so what a stop may leave.
use Rattle.std.specs.Prelude.{◌≡◌, ℕ, ◌+◌, ◌≤◌, List, [], ◌∷◌, length, get_or}
use Rattle.rep_disk.specs.Bytes.{put, Untouched}

-- The calls that changed something, the last one outermost. A failed sync changes nothing, and nor does a read.
pub data History : Type 0 where
  -- the bytes that it was found with, all of them stable
  Begins : List ℕ → History
  -- these bytes were written at this offset
  Wrote : ℕ → List ℕ → History → History
  -- a write at this offset failed, and left these bytes in its range
  Spoiled : ℕ → List ℕ → History → History
  -- a sync succeeded
  Synced : History → History

-- what the disk reads as
abbrev pub seen : History → List ℕ
seen (Begins bytes) = bytes
seen (Wrote at bytes h) = put (seen h) at bytes
seen (Spoiled at junk h) = put (seen h) at junk
seen (Synced h) = seen h

-- the last stable bytes: what it read as at the last sync that succeeded
abbrev pub stable : History → List ℕ
stable (Begins bytes) = bytes
stable (Wrote at bytes h) = stable h
stable (Spoiled at junk h) = stable h
stable (Synced h) = seen h

-- the pending ranges, each an offset and a length: those of the writes since then, the failed ones too
abbrev pub pending : History → List (ℕ × ℕ)
pending (Begins bytes) = []
pending (Wrote at bytes h) = (at, length bytes) ∷ pending h
pending (Spoiled at junk h) = (at, length junk) ∷ pending h
pending (Synced h) = []

-- the ranges of the failed writes since then
abbrev pub failed : History → List (ℕ × ℕ)
failed (Begins bytes) = []
failed (Wrote at bytes h) = failed h
failed (Spoiled at junk h) = (at, length junk) ∷ failed h
failed (Synced h) = []

-- The images of a moment: what a stop may leave. They have the disk's size and agree with the last stable bytes outside
-- the pending ranges.
pub record IsImage (h : History) (image : List ℕ) : Type 0 where
  pub sized : length image ≡ length (stable h)
  pub outside : (k : ℕ) → Untouched (pending h) k 1 → get_or image k 0 ≡ get_or (stable h) k 0

-- What a read at this offset may give: outside the ranges of failed writes it is what was written.
abbrev pub Reads : History → ℕ → List ℕ → Type 0
Reads h at bytes = (k : ℕ) → k + 1 ≤ length bytes → Untouched (failed h) (at + k) 1 → get_or bytes k 0 ≡ get_or (seen h) (at + k) 0
