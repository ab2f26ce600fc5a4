-- What a replica does by itself, until nothing is left to do.
use Rattle.std.specs.Prelude.{◌≡◌, ◌↔◌, ℕ, ◌+◌, ◌*◌, ◌&&◌, ◌⊎◌, Bool, true, false, nat_le, ◌==◌, if◌then◌else◌, List, [], ◌∷◌, ◌++◌, length, Option, None, Some, Result, Ok, Err}
use Rattle.rep_types.specs.declared.refusal.Refusal.{Refusal}
use Rattle.rep_types.specs.declared.refusal.Refusal.TheVariants.{OutOfMemory, DiskFault, Corrupt}
use Rattle.rep_types.specs.declared.refusal.Part.TheVariants.{Pages}
use Rattle.rep_disk.specs.declared.disk.Disk.{Ghosts}
use Rattle.rep_log.specs.declared.phase.Phase.{Phase}
use Rattle.rep_log.specs.declared.phase.Phase.TheVariants.{Resting, Closing, Filling, Filled, Opening}
use Rattle.rep_log.specs.Standing.{stands_at, index_of}
use Rattle.rep_steps.specs.declared.event.Event.{Event}
use Rattle.rep_steps.specs.declared.event.Event.TheVariants.{Deliver, SetWindow, Log, Sync, Check, Flush, Read}
use Rattle.rep_steps.specs.declared.answer.Answer.{Answer}
use Rattle.rep_steps.specs.declared.answer.Answer.TheVariants.{Refused}
use Rattle.rep_steps.specs.Standings.{Standing, Part, Flushing, Saving, Ready, SuperFilling, SuperFilled, SuperOpening, Stage, Off, Toward, Retiring}
use Rattle.rep_steps.specs.Moves.{Moves, is_off}
use Rattle.rep_steps.specs.Runs.{Runs}
use Rattle.rep_replica.specs.Replicas.{Replica, facts_of}
use Rattle.rep_replica.specs.Holding.{IsStep}
use Rattle.rep_replica.specs.Running.{Ran}
use Rattle.rep_replica.specs.Spelling.{MeetsBadPage}

-- All that was delivered is durable, and no checkpoint is under way.
abbrev pub is_quiet : Standing → Bool
is_quiet s = (length s.ahead == 0) && is_off s.stage

-- It wasn't stopped from outside, and its device has not failed.
pub record IsRunning {D : Type 0} (r : Replica D) : Type 0 where
  pub inside : r.stopped ≡ false
  pub device : r.engine.halted ≡ None

-- ---- what is due

-- the step that the checkpoint under way waits for
abbrev pub step_of_part : Part → Event
step_of_part (Flushing []) = Check
step_of_part (Flushing (page ∷ left)) = Flush page
step_of_part Saving = Sync
step_of_part Ready = Check
step_of_part SuperFilling = Sync
step_of_part SuperFilled = Check
step_of_part SuperOpening = Sync

abbrev pub step_of : Stage → Option Event
step_of Off = None
step_of (Toward goal part) = Some (step_of_part part)
step_of (Retiring false) = Some Check
step_of (Retiring true) = Some Sync

-- What the log waits for, where something isn't durable: where its next cell is live, the checkpoint that frees it.
abbrev pub log_event : Standing → Phase → Event
log_event s Resting = if nat_le (s.start + s.setting.cells) s.next then Check else Log
log_event s Closing = Sync
log_event s (Filling n) = Sync
log_event s (Filled n) = Log
log_event s (Opening n) = Sync

-- The step of its own that is due: that of the checkpoint under way; where none is, the log's, if something isn't durable.
abbrev pub due_at : Standing → Stage → Option Event
due_at s Off = if length s.ahead == 0 then None else Some (log_event s s.phase)
due_at s (Toward goal part) = Some (step_of_part part)
due_at s (Retiring written) = step_of (Retiring written)

abbrev pub due : Standing → Option Event
due s = due_at s s.stage

abbrev pub IsNext : Standing → Event → Type 0
IsNext s e = due s ≡ Some e

-- a step that a rule allows where it is taken, on any device
abbrev pub Allows : (Standing → Event → Type 0) → Standing → Event → Answer → Standing → Type 0
Allows rule s e a t = rule s e × Moves s e a t

-- a step that is due, on any device
abbrev pub IsDue : Standing → Event → Answer → Standing → Type 0
IsDue = Allows IsNext

-- ---- what it does

-- a step of its own: no delivery, and no read
abbrev pub IsOwn : Event → Type 0
IsOwn (Deliver seqno w) = ⊥
IsOwn (SetWindow seqno size source trx) = ⊥
IsOwn (Read key at) = ⊥
IsOwn e = Unit {0}

abbrev pub AreOwn : List Event → Type 0
AreOwn [] = Unit {0}
AreOwn (e ∷ events) = IsOwn e × AreOwn events

-- what came of a step, but for what it answers
abbrev pub outcome_of : Answer → Result (Unit {0}) Refusal
outcome_of (Refused r) = Err r
outcome_of a = Ok tt

-- none was refused
abbrev pub AreDone : List Answer → Type 0
AreDone [] = Unit {0}
AreDone (a ∷ answers) = (outcome_of a ≡ Ok tt) × AreDone answers

-- None was refused, or the last one alone, with this.
abbrev pub EndsIn : Result (Unit {0}) Refusal → List Answer → Type 0
EndsIn (Ok x) answers = AreDone answers
EndsIn (Err e) answers = (done : List Answer) × AreDone done × (answers ≡ done ++ Refused e ∷ [])

-- The replica took some steps of its own one after another, each where the rule allows it, none of which was refused but the last one, where
-- it ended early: a run on any device, and one of the node that it stands for. A device is honest behind it exactly where it was before;
-- a corrupt page is one that its last step flushed, where the bytes have none; and what a refusal leaves is what that step left.
pub record WorksBy (rule : Standing → Event → Type 0) {D : Type 0} (g : Ghosts D) (old new : Replica D) (result : Result (Unit {0}) Refusal) : Type 0 where
  pub events : List Event
  pub answers : List Answer
  pub own : AreOwn events
  pub ends : EndsIn result answers
  pub moves : Runs (Allows rule) (facts_of g old) events answers (facts_of g new)
  pub steps : Runs (IsStep g) old events answers new
  pub device : g.honest old.engine.disk ↔ g.honest new.engine.disk
  pub corrupt : result ≡ Err (Corrupt Pages) → MeetsBadPage g new
  pub ran : Ran g old new events answers

-- each the one that is due
abbrev pub Works : {D : Type 0} → Ghosts D → Replica D → Replica D → Result (Unit {0}) Refusal → Type 0
Works g old new result = WorksBy IsNext g old new result

-- why a step of its own is refused that is due
abbrev pub EndsEarly : Refusal → Type 0
EndsEarly e = (e ≡ OutOfMemory) ⊎ ((e ≡ DiskFault) ⊎ (e ≡ Corrupt Pages))

-- ---- how much is left to do

-- how many steps the checkpoint needs to its end
abbrev pub left_of_part : Part → ℕ
left_of_part (Flushing left) = length left + 8
left_of_part Saving = 7
left_of_part Ready = 6
left_of_part SuperFilling = 5
left_of_part SuperFilled = 4
left_of_part SuperOpening = 3

abbrev pub left_of : Stage → ℕ
left_of Off = 0
left_of (Toward goal part) = left_of_part part
left_of (Retiring false) = 2
left_of (Retiring true) = 1

-- where the log starts once the checkpoint has ended
abbrev pub start_of : ℕ → Stage → ℕ
start_of start Off = start
start_of start (Toward goal part) = goal.start
start_of start (Retiring written) = start

-- What was delivered and isn't durable still is so, and as much is durable.
pub record Keeps (s t : Standing) : Type 0 where
  pub ahead : t.ahead ≡ s.ahead
  pub durable : t.durable ≡ s.durable

-- What the steps of a checkpoint leave of a log at rest: what stood there, from that start on in the end.
pub record Rests (s t : Standing) : Type 0 where
  pub phase : t.phase ≡ Resting
  pub ahead : t.ahead ≡ s.ahead
  pub durable : t.durable ≡ s.durable
  pub setting : t.setting ≡ s.setting
  pub next : t.next ≡ s.next
  pub start : start_of t.start t.stage ≡ start_of s.start s.stage

-- how far the log is from its next block: its cell is live, it stands open, it is being closed, it is free, the block is being
-- written, it is stable, its gate is being opened
abbrev pub left_at_rest : Bool → Bool → ℕ
left_at_rest true stale = 7
left_at_rest false true = 6
left_at_rest false false = 4

abbrev pub left_in : Standing → Bool → Phase → ℕ
left_in s stale Resting = left_at_rest (nat_le (s.start + s.setting.cells) s.next) stale
left_in s stale Closing = 5
left_in s stale (Filling n) = 3
left_in s stale (Filled n) = 2
left_in s stale (Opening n) = 1

-- each item may need a block of its own
abbrev pub work_of : {D : Type 0} → Ghosts D → Replica D → ℕ
work_of g r =
    let s = facts_of g r in
    8 * length s.ahead + left_in s (stands_at r.engine.log (index_of r.engine.log)) s.phase
