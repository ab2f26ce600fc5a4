-- How a log stands, and what its cells' states then are.
use Rattle.std.specs.Prelude.{◌≡◌, ◌≢◌, ℕ, ◌+◌, ◌<◌, ◌≤◌, ◌%◌, Bool, true, false, nat_le, if◌then◌else◌, List, length, get_or}
use Rattle.rep_types.specs.declared.judged.Judged.{Judged}
use Rattle.rep_types.specs.declared.limits.TheConstants.{MAX_CELLS, MAX_SEQNO}
use Rattle.rep_record.specs.Blocks.{block_bytes}
use Rattle.rep_layout.specs.declared.place.Layout.{Layout}
use Rattle.rep_layout.specs.declared.place.Place.TheVariants.{Log}
use Rattle.rep_layout.specs.Places.{log_of}
use Rattle.rep_cells.specs.States.{State, States, Closed, Filling, Filled, Opening, Opened, Closing}
use Rattle.rep_log.specs.declared.phase.Phase.{Phase}
use Rattle.rep_log.specs.declared.phase.Phase.TheVariants.{Resting, Closing as is_closing, Filling as is_filling, Filled as is_filled, Opening as is_opening}
use Rattle.rep_log.specs.declared.phase.Step.{Step}
use Rattle.rep_log.specs.declared.phase.Step.TheVariants.{Recycle, Seal, Gate, Sync, Full}
use Rattle.rep_log.specs.Tail.{IsBlockFrom, Stand, seqno_after, IsOld}

-- what a log knows of itself: the number of the first block that is still needed and of the next one, the seqno of the record
-- that comes next, how many cells there are, how far the next block is, and which cells stand open, but for the next block's
-- while it is written
pub record Standing : Type 0 where
  pub start : ℕ
  pub next : ℕ
  pub seqno : ℕ
  pub cells : ℕ
  pub phase : Phase
  pub stands : List Bool

-- whether this cell stands open
abbrev pub stands_at : Standing → ℕ → Bool
stands_at log i = get_or log.stands i false

-- the next block's cell
abbrev pub index_of : Standing → ℕ
index_of log = log.next % log.cells

-- what is due: where nothing of the next block was written, nothing while its cell is live, to close what stands open there, or
-- to write the block
abbrev pub due_at_rest : Standing → Step
due_at_rest log =
    if nat_le (log.start + log.cells) log.next then Full
    else if stands_at log (index_of log) then Recycle
    else Seal

abbrev pub due_in : Standing → Phase → Step
due_in log Resting = due_at_rest log
due_in log is_closing = Sync
due_in log (is_filling n) = Sync
due_in log (is_filled n) = Gate
due_in log (is_opening n) = Sync

abbrev pub due_of : Standing → Step
due_of log = due_in log log.phase

-- how many cells are in use for a block that isn't durable
abbrev pub busy : Phase → ℕ
busy Resting = 0
busy is_closing = 1
busy (is_filling n) = 1
busy (is_filled n) = 1
busy (is_opening n) = 1

-- how many records the block has that is being written
abbrev pub coming : Phase → ℕ
coming Resting = 0
coming is_closing = 0
coming (is_filling n) = n
coming (is_filled n) = n
coming (is_opening n) = n

-- and that there is one
abbrev pub HasRecord : Phase → Type 0
HasRecord Resting = Unit {0}
HasRecord is_closing = Unit {0}
HasRecord (is_filling n) = 0 < n
HasRecord (is_filled n) = 0 < n
HasRecord (is_opening n) = 0 < n

-- The numbers are within their limits: a block's number is below its first seqno, since each block before it had a record, and
-- the block that is being written has one too.
pub record IsInLimits (start next seqno cells : ℕ) (phase : Phase) : Type 0 where
  pub later : start ≤ next
  pub below : next < seqno
  pub some_cell : 0 < cells
  pub few_cells : cells ≤ MAX_CELLS
  pub seqnos : seqno + coming phase ≤ MAX_SEQNO + 1
  pub some_record : HasRecord phase

-- A cell at rest: closed, or open over the block of an earlier number that belongs there.
abbrev pub AtRest : Bool → Layout → ℕ → ℕ → State → Type 0
AtRest false l i next state = state ≡ Closed
AtRest true l i next state = (body : List ℕ) × (state ≡ Opened body) × IsOld l i next body

-- The next block, of so many records, is as far as this in its cell.
pub record IsWritten (state step : State) (next seqno n : ℕ) (records : List Judged) : Type 0 where
  pub state_is : state ≡ step
  pub size : length records ≡ n
  pub block : IsBlockFrom next seqno records

-- the next block's cell while it is written
abbrev pub IsDue : Phase → Layout → ℕ → ℕ → ℕ → List Judged → State → Type 0
IsDue Resting l i next seqno sealed state = Unit {0}
IsDue is_closing l i next seqno sealed state = (body : List ℕ) × (state ≡ Closing body) × IsOld l i next body
IsDue (is_filling n) l i next seqno sealed state = IsWritten state (Filling (block_bytes next sealed)) next seqno n sealed
IsDue (is_filled n) l i next seqno sealed state = IsWritten state (Filled (block_bytes next sealed)) next seqno n sealed
IsDue (is_opening n) l i next seqno sealed state = IsWritten state (Opening (block_bytes next sealed)) next seqno n sealed

-- the cell of the block of this number is open over this body, and both are stable
abbrev pub StandsOpen : States → Layout → ℕ → List ℕ → Type 0
StandsOpen s l n body = s (log_of l n) ≡ Opened body

-- The states are those of a log that stands so, in a layout with a cell or more: these blocks stand open from `start` on up to
-- the next one, of seqnos from this one on; every other cell is closed or holds an earlier number, and which are open is
-- known; and the next block's cell, which isn't live while it is written, is as far as the phase says, over these records.
pub record LogIs (l : Layout) (log : Standing) (first : ℕ) (blocks : List (List Judged)) (sealed : List Judged) (s : States) : Type 0 where
  pub cells : l.cells ≡ log.cells
  pub some : 0 < l.cells
  pub known : l.cells ≤ length log.stands
  pub starts : log.start < first
  pub limit : first ≤ MAX_SEQNO + 1
  pub live : Stand (StandsOpen s l) log.start first blocks
  pub next : log.next ≡ log.start + length blocks
  pub seqno : log.seqno ≡ seqno_after first blocks
  pub room : log.next + busy log.phase ≤ log.start + l.cells
  pub rest : (i : ℕ) → i < l.cells → (busy log.phase ≡ 1 → i ≢ log.next % l.cells) → AtRest (stands_at log i) l i log.next (s (Log i))
  pub due : IsDue log.phase l (log.next % l.cells) log.next log.seqno sealed (s (log_of l log.next))
