-- What a scan finds, and how far it has come.
use Rattle.std.specs.Prelude.{◌≡◌, ◌⊎◌, ℕ, ◌+◌, ◌<◌, ◌≤◌, ◌%◌, Bool, is_some, List, [], length, slice_set, Option, Some}
use Rattle.rep_types.specs.declared.judged.Judged.{Judged}
use Rattle.rep_types.specs.declared.limits.TheConstants.{MAX_CELLS, MAX_SEQNO}
use Rattle.rep_record.specs.declared.replays.Replays.{Ghosts}
use Rattle.rep_record.specs.Blocks.{IsNextBlock}
use Rattle.rep_record.specs.Replaying.{Replayed}
use Rattle.rep_layout.specs.declared.place.Layout.{Layout}
use Rattle.rep_cells.specs.Readings.{Reading, reading_of}
use Rattle.rep_cells.specs.Known.{found}
use Rattle.rep_log.specs.declared.phase.Phase.TheVariants.{Resting}
use Rattle.rep_log.specs.Tail.{records_of, cell_in, IsLog}
use Rattle.rep_log.specs.Standing.{Standing, LogIs}

-- a log has a cell, and no more than the limit
pub record HasCells (l : Layout) : Type 0 where
  pub some : 0 < l.cells
  pub few : l.cells ≤ MAX_CELLS

-- ---- what is found

-- Bytes hold this log: blocks, whose records these are; and in the states that are found there it stands at rest behind the last.
pub record Finds (l : Layout) (bytes : List ℕ) (from first : ℕ) (log : Standing) (items : List Judged) : Type 0 where
  pub blocks : List (List Judged)
  pub items_are : items ≡ records_of blocks
  pub is_log : IsLog (reading_of l bytes) l from first blocks
  pub start : log.start ≡ from
  pub phase : log.phase ≡ Resting
  pub log_is : LogIs l log first blocks [] (found l bytes)

-- What is found on any device, whatever it reads as: a log at rest in these cells, from this start on, of no more than a lap, behind
-- which as many seqnos are taken as there are items, at least one by each block.
pub record IsScanned (l : Layout) (from first : ℕ) (log : Standing) (items : List Judged) : Type 0 where
  pub start : log.start ≡ from
  pub cells : log.cells ≡ l.cells
  pub phase : log.phase ≡ Resting
  pub later : from ≤ log.next
  pub lap : log.next ≤ from + l.cells
  pub seqno : log.seqno ≡ first + length items
  pub filled : log.next + first ≤ log.start + log.seqno
  pub limit : log.seqno ≤ MAX_SEQNO + 1

-- Of a scan: the log that it found, and the items of it that were given on, and where the device is honest what its bytes hold.
pub record Scans {S : Type 0} (g : Ghosts S) (IsHonest : Type 0) (l : Layout) (bytes : List ℕ) (from first : ℕ) (log : Standing) (old new : S) : Type 0 where
  pub items : List Judged
  pub scanned : IsScanned l from first log items
  pub replayed : Replayed g old items new
  pub finds : IsHonest → Finds l bytes from first log items

-- Whatever log the reading holds, this is so of its records.
abbrev pub StopsIn : (List Judged → Type 0) → Reading → Layout → ℕ → ℕ → Type 0
StopsIn Stops r l from first = (blocks : List (List Judged)) → IsLog r l from first blocks → Stops (records_of blocks)

-- ---- a scan while it goes on

-- the number that it began with, the number and the seqno behind the last block that was taken, and which cells stand open
pub record Found : Type 0 where
  pub from : ℕ
  pub next : ℕ
  pub seqno : ℕ
  pub stands : List Bool

-- Nothing was visited yet.
pub record IsBegun (scan : Found) (from seqno : ℕ) : Type 0 where
  pub from_is : scan.from ≡ from
  pub next_is : scan.next ≡ from
  pub seqno_is : scan.seqno ≡ seqno

-- the log that is at rest behind what was taken
abbrev pub rests_as : Layout → Found → Standing
rests_as l scan = record { start = scan.from; next = scan.next; seqno = scan.seqno; cells = l.cells; phase = Resting; stands = scan.stands }

-- with a block more, of these records
abbrev pub taken_with : List Judged → Found → Found
taken_with records scan = record scan { next = scan.next + 1; seqno = scan.seqno + length records }

-- with what this cell reads as
abbrev pub noted_at : ℕ → Option (List ℕ) → Found → Found
noted_at i cell scan = record scan { stands = slice_set scan.stands i (is_some cell) }

-- The cell holds the next block, of these records, and it is taken.
pub record Takes (l : Layout) (number : ℕ) (cell : Option (List ℕ)) (old new : Found) (records : List Judged) : Type 0 where
  pub is_next : number ≡ old.next
  pub body : List ℕ
  pub shown : cell ≡ Some body
  pub taken : IsNextBlock number old.seqno body records
  pub after : new ≡ taken_with records (noted_at (number % l.cells) cell old)

-- The cell is passed: what it holds, if it is open, belongs there and is from before the scan's first block.
pub record Passes (l : Layout) (number : ℕ) (cell : Option (List ℕ)) (old new : Found) (records : List Judged) : Type 0 where
  pub none : records ≡ []
  pub before : (body : List ℕ) → cell ≡ Some body → (cell_in body % l.cells ≡ number % l.cells) × (cell_in body < old.from)
  pub after : new ≡ noted_at (number % l.cells) cell old

abbrev pub Visits : Layout → ℕ → Option (List ℕ) → Found → Found → List Judged → Type 0
Visits l number cell old new records = Takes l number cell old new records ⊎ Passes l number cell old new records

-- The cell of this number was read and visited, and the records that were taken were given on.
pub record ReadsOn {S : Type 0} (g : Ghosts S) (IsRead : Option (List ℕ) → Type 0) (l : Layout) (number : ℕ) (old new : Found) (before after : S) : Type 0 where
  pub cell : Option (List ℕ)
  pub is_read : IsRead cell
  pub records : List Judged
  pub visits : Visits l number cell old new records
  pub replayed : Replayed g before records after

-- Why the cell can be neither taken nor passed: it holds the next number, and whatever block of it with the next seqnos it is, its
-- records stop the scan; or it holds another number, which doesn't belong there or isn't from before the scan's first block.
pub record HoldsNoBlock (Stops : List Judged → Type 0) (number : ℕ) (old : Found) (body : List ℕ) : Type 0 where
  pub is_next : number ≡ old.next
  pub held : cell_in body ≡ number
  pub stops : (records : List Judged) → IsNextBlock number old.seqno body records → Stops records

pub record IsMisplaced (l : Layout) (number : ℕ) (old : Found) (body : List ℕ) : Type 0 where
  pub other : cell_in body ≡ number → number ≡ old.next → ⊥
  pub wrong : (cell_in body % l.cells ≡ number % l.cells → ⊥) ⊎ (old.from ≤ cell_in body)

pub record IsNoCell (Stops : List Judged → Type 0) (l : Layout) (number : ℕ) (cell : Option (List ℕ)) (old : Found) : Type 0 where
  pub body : List ℕ
  pub shown : cell ≡ Some body
  pub why : HoldsNoBlock Stops number old body ⊎ IsMisplaced l number old body
