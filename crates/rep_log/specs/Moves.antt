-- What the log's calls do: what is refused, how the log stands after each, and what they make of the states of its cells.
use Rattle.std.specs.Prelude.{◌≡◌, ◌≢◌, ℕ, ◌+◌, ◌-◌, ◌==◌, ◌&&◌, true, false, if◌then◌else◌, min, max, List, [], ◌∷◌, ◌++◌, take, drop, Option, None, Some, Result, Err, IfErr, slice_set}
use Rattle.rep_types.specs.declared.judged.Judged.{Judged}
use Rattle.rep_types.specs.declared.refusal.Refusal.{Refusal}
use Rattle.rep_types.specs.declared.refusal.Refusal.TheVariants.{NotDue, LogFull, DiskFault}
use Rattle.rep_record.specs.Blocks.{first_seqno}
use Rattle.rep_disk.specs.declared.disk.Disk.{Ghosts}
use Rattle.rep_disk.specs.History.{History}
use Rattle.rep_layout.specs.declared.place.Layout.{Layout}
use Rattle.rep_layout.specs.declared.place.Place.{Place}
use Rattle.rep_layout.specs.declared.place.Place.TheVariants.{Log}
use Rattle.rep_layout.specs.Places.{log_of}
use Rattle.rep_cells.specs.States.{States, Syncs}
use Rattle.rep_cells.specs.Known.{Assigns}
pub use Rattle.rep_cells.specs.Faults.{fault_of}
use Rattle.rep_cells.specs.Calls.{Reaches, WritesOnly, WritesIn}
use Rattle.rep_log.specs.declared.phase.Phase.{Phase}
use Rattle.rep_log.specs.declared.phase.Phase.TheVariants.{Resting, Closing, Filling, Filled, Opening}
use Rattle.rep_log.specs.declared.phase.Step.{Step}
use Rattle.rep_log.specs.declared.phase.Step.TheVariants.{Recycle, Seal, Gate, Full}
use Rattle.rep_log.specs.Tail.{seqno_after}
use Rattle.rep_log.specs.Standing.{Standing, index_of, due_of, LogIs}

-- ---- what is refused

-- what a call is answered whose step this is, where that is due
abbrev pub unless_due : Step → Step → Option Refusal
unless_due Recycle Recycle = None
unless_due Seal Seal = None
unless_due Seal Full = Some LogFull
unless_due Gate Gate = None
unless_due step due = Some NotDue

-- What a call refuses before it touches the device: nothing is due on cells that aren't the log's, and no block but that of the
-- next seqno.
abbrev pub step_refusal : Step → Layout → Standing → Option Refusal
step_refusal step l log = if l.cells == log.cells then unless_due step (due_of log) else Some NotDue

abbrev pub seal_refusal : Layout → Standing → List Judged → Option Refusal
seal_refusal l log records = if (l.cells == log.cells) && (first_seqno records == log.seqno) then unless_due Seal (due_of log) else Some NotDue

-- A call that was refused: log and device are as before.
pub record IsRefused {D T : Type 0} (e : Refusal) (before after : Standing) (old new : D) (result : Result T Refusal) : Type 0 where
  pub refused : result ≡ Err e
  pub log : after ≡ before
  pub disk : new ≡ old

-- ---- how the log stands after a call

-- once the gate of a stale cell, the block, and its open gate are written
abbrev pub recycled : Standing → Standing
recycled log = record log { phase = Closing }

abbrev pub sealed_as : ℕ → Standing → Standing
sealed_as n log = record log { phase = Filling n }

abbrev pub gated_in : Standing → Phase → Standing
gated_in log Resting = log
gated_in log Closing = log
gated_in log (Filling n) = log
gated_in log (Filled n) = record log { phase = Opening n }
gated_in log (Opening n) = log

abbrev pub gated : Standing → Standing
gated log = gated_in log log.phase

-- after a sync that succeeds
abbrev pub synced_in : Standing → Phase → Standing
synced_in log Resting = log
synced_in log Closing = record log { phase = Resting; stands = slice_set log.stands (index_of log) false }
synced_in log (Filling n) = record log { phase = Filled n }
synced_in log (Filled n) = log
synced_in log (Opening n) = record log { next = log.next + 1; seqno = log.seqno + n; phase = Resting; stands = slice_set log.stands (index_of log) true }

abbrev pub after_sync : Standing → Standing
after_sync log = synced_in log log.phase

-- and which blocks it then holds: that sync makes the block whose gate opened durable
abbrev pub blocks_synced : Phase → List (List Judged) → List Judged → List (List Judged)
blocks_synced Resting blocks sealed = blocks
blocks_synced Closing blocks sealed = blocks
blocks_synced (Filling n) blocks sealed = blocks
blocks_synced (Filled n) blocks sealed = blocks
blocks_synced (Opening n) blocks sealed = blocks ++ sealed ∷ []

-- how many records it makes durable
abbrev pub durable_by : Phase → ℕ
durable_by Resting = 0
durable_by Closing = 0
durable_by (Filling n) = 0
durable_by (Filled n) = 0
durable_by (Opening n) = n

-- from this block on, where that is neither before the start nor behind the next block
abbrev pub started : ℕ → Standing → Standing
started start log = record log { start = max log.start (min start log.next) }

-- from the next block on, whose first record is to have this seqno
abbrev pub restarted : ℕ → Standing → Standing
restarted seqno log = record log { start = log.next; seqno = seqno }

-- ---- what becomes of the states

-- A call on the log: there are states that differ from those before it in the log's cells alone, in which the log stands as it
-- does after the call; they are the states during the call and after it.
pub record Steps {T E : Type 0} (l : Layout) (old new : History) (s : States) (log : Standing) (first : ℕ) (blocks : List (List Judged)) (sealed : List Judged) (result : Result T E) : Type 0 where
  pub states : States
  pub elsewhere : (place : Place) → ((i : ℕ) → place ≢ Log i) → states place ≡ s place
  pub log_is : LogIs l log first blocks sealed states
  pub reaches : Reaches l old new states states result

-- A step that is due: the log stands so after it, also where it failed; it writes these bytes at this offset and no others, in
-- the next block's cell; it refuses the device's fault alone; and on an honest device, whatever the log held before, it holds it during the call and
-- after it, with this block in writing.
pub record IsStep {D T : Type 0} (g : Ghosts D) (l : Layout) (before after to : Standing) (coming : List Judged → List Judged) (at : ℕ) (bytes : List ℕ) (old new : D) (result : Result T Refusal) : Type 0 where
  pub stands : after ≡ to
  pub fault : IfErr result (λ e. e ≡ DiskFault)
  pub written : WritesOnly g at bytes old new result
  pub inside : WritesIn g l (log_of l before.next) old new result
  pub steps :
      g.honest old → (s : States) (first : ℕ) (blocks : List (List Judged)) (sealed : List Judged) → Assigns l (g.history old) s → LogIs l before first blocks sealed s
      → Steps l (g.history old) (g.history new) s after first blocks (coming sealed) result

-- Whatever the log held, a sync leaves that, with the block whose gate opened.
abbrev pub SyncsLog : Standing → Standing → Type 0
SyncsLog before after =
    (l : Layout) (s t : States) (first : ℕ) (blocks : List (List Judged)) (sealed : List Judged) → Syncs s t → LogIs l before first blocks sealed s
    → LogIs l after first (blocks_synced before.phase blocks sealed) sealed t

-- Whatever the log held, from a later start on it holds what is left of it.
abbrev pub StartsLater : Standing → Standing → Type 0
StartsLater before after =
    (l : Layout) (s : States) (first : ℕ) (blocks : List (List Judged)) (sealed : List Judged) → LogIs l before first blocks sealed s
    → LogIs l after (seqno_after first (take (after.start - before.start) blocks)) (drop (after.start - before.start) blocks) sealed s

-- Whatever the log held, behind a state from elsewhere it holds nothing: its blocks are those of an earlier lap.
abbrev pub Restarts : ℕ → Standing → Standing → Type 0
Restarts seqno before after =
    (l : Layout) (s : States) (first : ℕ) (blocks : List (List Judged)) (sealed : List Judged) → before.phase ≡ Resting → LogIs l before first blocks sealed s
    → LogIs l after seqno [] [] s
