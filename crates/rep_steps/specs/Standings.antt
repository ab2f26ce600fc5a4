-- The facts of a replica that decide each refusal, on any device.
use Rattle.std.specs.Prelude.{◌≡◌, ℕ, ◌+◌, ◌<◌, ◌≤◌, ◌==◌, Bool, nat_le, nat_lt, not, if◌then◌else◌, List, [], ◌∷◌, length, Option, None, Some, IsTrue}
use Rattle.std.specs.List.{list_any}
use Rattle.uuid.specs.Parts.{is_nil_bytes}
use Rattle.rep_types.specs.declared.key.Key.{Key}
use Rattle.rep_types.specs.declared.judged.Judged.{Judged}
use Rattle.rep_types.specs.declared.refusal.Refusal.{Refusal}
use Rattle.rep_types.specs.declared.refusal.Refusal.TheVariants.{Stopped, OutOfOrder, Backlogged, LogFull, NotDue, TooOld, NotYet, BadKey, Undefined, Exhausted}
use Rattle.rep_types.specs.declared.limits.TheConstants.{MAX_SEQNO, MAX_AHEAD}
use Rattle.rep_types.specs.Settings.{Setting, is_setting, has_row}
use Rattle.rep_log.specs.Fronts.{fitting}
use Rattle.rep_log.specs.declared.phase.Phase.{Phase}
use Rattle.rep_log.specs.declared.phase.Phase.TheVariants.{Resting, Closing, Filling, Filled, Opening}
use Rattle.rep_steps.specs.declared.event.Event.{Event}
use Rattle.rep_steps.specs.declared.event.Event.TheVariants.{Deliver, SetWindow, Log, Sync, Check, Flush, Read}

-- what a checkpoint makes the base: the position, and the number of the cell whose block begins behind it
pub record Goal : Type 0 where
  pub position : ℕ
  pub start : ℕ

-- How far a checkpoint is on its way to a goal: some pages are left to be flushed, the window is being saved, pages and window
-- are stable, the superblock is being written, it is stable, and its gate is being opened.
pub data Part : Type 0 where
  Flushing : List ℕ → Part
  Saving : Part
  Ready : Part
  SuperFilling : Part
  SuperFilled : Part
  SuperOpening : Part

-- Where the checkpoint is. While it retires the old superblock, it has written that one's closed gate or not.
pub data Stage : Type 0 where
  Off : Stage
  Toward : Goal → Part → Stage
  Retiring : Bool → Stage

-- The facts: state UUID and parameters, the positions of the base and of what is durable, the delivered items that are not
-- durable, how far the log's next block is, the numbers of its cell and of the first cell that is still needed, the checkpoint's
-- stage, the device's count of failures, and whether the replica is stopped.
pub record Standing : Type 0 where
  pub uuid : List ℕ
  pub setting : Setting
  pub base : ℕ
  pub durable : ℕ
  pub ahead : List Judged
  pub phase : Phase
  pub next : ℕ
  pub start : ℕ
  pub stage : Stage
  pub failures : ℕ
  pub stopped : Bool

abbrev pub delivered : Standing → ℕ
delivered s = s.durable + length s.ahead

-- ---- the first refusal that applies, want of memory and the device aside

abbrev pub delivery_refusal : Standing → ℕ → Option Refusal
delivery_refusal s seqno =
    if is_nil_bytes s.uuid then Some Undefined
    else if delivered s == MAX_SEQNO then Some Exhausted
    else if not (seqno == delivered s + 1) then Some (OutOfOrder (delivered s + 1))
    else if nat_le MAX_AHEAD (length s.ahead) then Some Backlogged
    else None

-- how many of the items that are not durable the next block takes: the longest front that fits
abbrev pub gathered : Standing → ℕ
gathered s = fitting [] s.ahead

-- the log waits for items, or for the checkpoint that frees its next cell
abbrev pub block_refusal : Standing → Option Refusal
block_refusal s =
    if gathered s == 0 then Some NotDue
    else if nat_le (s.start + s.setting.cells) s.next then Some LogFull
    else None

abbrev pub log_refusal : Standing → Phase → Option Refusal
log_refusal s Resting = block_refusal s
log_refusal s Closing = Some NotDue
log_refusal s (Filling k) = Some NotDue
log_refusal s (Filled k) = None
log_refusal s (Opening k) = Some NotDue

abbrev pub part_refusal : Part → Option Refusal
part_refusal (Flushing []) = None
part_refusal (Flushing (page ∷ left)) = Some NotDue
part_refusal Saving = Some NotDue
part_refusal Ready = None
part_refusal SuperFilling = Some NotDue
part_refusal SuperFilled = None
part_refusal SuperOpening = Some NotDue

abbrev pub check_refusal : Standing → Stage → Option Refusal
check_refusal s Off = if nat_le s.durable s.base then Some NotDue else None
check_refusal s (Toward goal part) = part_refusal part
check_refusal s (Retiring written) = if written then Some NotDue else None

abbrev pub flush_refusal : Stage → ℕ → Option Refusal
flush_refusal (Toward goal (Flushing left)) page = if list_any (λ (p : ℕ). p == page) left then None else Some NotDue
flush_refusal stage page = Some NotDue

abbrev pub read_refusal : Standing → Key → ℕ → Option Refusal
read_refusal s key at =
    if not (has_row s.setting.rows key) then Some BadKey
    else if nat_lt s.durable at then Some (NotYet s.durable)
    else if nat_lt at s.base then Some (TooOld s.base)
    else None

abbrev pub refusal_here : Standing → Event → Option Refusal
refusal_here s (Deliver seqno w) = delivery_refusal s seqno
refusal_here s (SetWindow seqno size source trx) = delivery_refusal s seqno
refusal_here s Log = log_refusal s s.phase
refusal_here s Sync = None
refusal_here s Check = check_refusal s s.stage
refusal_here s (Flush page) = flush_refusal s.stage page
refusal_here s (Read key at) = read_refusal s key at

abbrev pub refusal : Standing → Event → Option Refusal
refusal s e = if s.stopped then Some Stopped else refusal_here s e

-- ---- what holds of every standing

-- how many records the block has that is on its way to the disk, and how many cells it goes into
abbrev pub underway : Phase → ℕ
underway (Filling k) = k
underway (Filled k) = k
underway (Opening k) = k
underway phase = 0

abbrev pub claimed : Phase → ℕ
claimed (Filling k) = 1
claimed (Filled k) = 1
claimed (Opening k) = 1
claimed phase = 0

-- the goal lies between the base and what is durable, and its cell between the first and the next
pub record IsGoal (base durable start next : ℕ) (goal : Goal) : Type 0 where
  pub above : base < goal.position
  pub within : goal.position ≤ durable
  pub started : start ≤ goal.start
  pub begun : goal.start ≤ next

abbrev pub HasGoal : ℕ → ℕ → ℕ → ℕ → Stage → Type 0
HasGoal base durable start next Off = Unit {0}
HasGoal base durable start next (Toward goal part) = IsGoal base durable start next goal
HasGoal base durable start next (Retiring written) = Unit {0}

pub record IsStanding (s : Standing) : Type 0 where
  pub allowed : IsTrue (is_setting s.setting)
  pub undefined : IsTrue (is_nil_bytes s.uuid) → (s.durable ≡ 0) × (s.ahead ≡ [])
  pub based : s.base ≤ s.durable
  pub near : length s.ahead ≤ MAX_AHEAD
  pub limit : delivered s ≤ MAX_SEQNO
  pub block : underway s.phase ≤ length s.ahead
  pub few : underway s.phase ≤ 64
  pub started : s.start ≤ s.next
  pub room : s.next + claimed s.phase ≤ s.start + s.setting.cells
  pub goal : HasGoal s.base s.durable s.start s.next s.stage
