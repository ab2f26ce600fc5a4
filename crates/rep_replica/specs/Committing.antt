-- How a replica makes its next block durable, with a checkpoint beside.
use Rattle.std.specs.Prelude.{◌≡◌, ◌⊎◌, ℕ, ◌+◌, ◌<◌, ◌≤◌, Bool, true, false, nat_le, List, [], ◌∷◌, length, map, take, drop, Result, Ok, Err, Some, IfOk, MatchResult}
use Rattle.rep_types.specs.declared.reply.Reply.{Reply}
use Rattle.rep_types.specs.declared.refusal.Refusal.{Refusal}
use Rattle.rep_types.specs.Replies.{reply_of}
use Rattle.rep_disk.specs.declared.disk.Disk.{Ghosts}
use Rattle.rep_log.specs.declared.phase.Phase.{Phase}
use Rattle.rep_log.specs.declared.phase.Phase.TheVariants.{Resting, Closing, Filling, Filled, Opening}
use Rattle.rep_steps.specs.declared.event.Event.{Event}
use Rattle.rep_steps.specs.declared.event.Event.TheVariants.{Sync, Flush}
use Rattle.rep_steps.specs.Standings.{Part, Flushing, Stage, Off, Toward, Retiring, Standing, gathered}
use Rattle.rep_steps.specs.Runs.{acknowledged}
use Rattle.rep_replica.specs.Replicas.{Replica, facts_of}
use Rattle.rep_replica.specs.Settling.{step_of, log_event, WorksBy, Keeps}

-- ---- the log

-- whether its next cell is live, where nothing of the next block was written
abbrev pub is_full_in : Standing → Phase → Bool
is_full_in s Resting = nat_le (s.start + s.setting.cells) s.next
is_full_in s phase = false

abbrev pub is_full : Standing → Bool
is_full s = is_full_in s s.phase

-- The log's next cell is free, and nothing else of it has moved.
pub record LeavesRoom (s t : Standing) : Type 0 where
  pub free : is_full t ≡ false
  pub phase : t.phase ≡ Resting
  pub next : t.next ≡ s.next

-- How many items the next block has: of those that aren't durable the longest front that fits, or as many as were written.
abbrev pub coming_in : Standing → Phase → ℕ
coming_in s Resting = gathered s
coming_in s Closing = gathered s
coming_in s (Filling n) = n
coming_in s (Filled n) = n
coming_in s (Opening n) = n

abbrev pub coming : Standing → ℕ
coming s = coming_in s s.phase

-- The next block became durable, with these replies to the origins of its items: something, and at most 64 items.
pub record HasBlock (s : Standing) (replies : List Reply) (t : Standing) : Type 0 where
  pub some : 0 < coming s
  pub within : coming s ≤ length s.ahead
  pub few : coming s ≤ 64
  pub told : replies ≡ map reply_of (take (coming s) s.ahead)
  pub durable : t.durable ≡ s.durable + coming s
  pub ahead : t.ahead ≡ drop (coming s) s.ahead
  pub next : t.next ≡ s.next + 1
  pub phase : t.phase ≡ Resting

-- ---- whose turn it is

abbrev pub is_sync : Event → Bool
is_sync Sync = true
is_sync e = false

-- A step of the log, or one of the checkpoint under way: a sync for the checkpoint's sake only where the log was full. So a checkpoint begins
-- only where the log's next cell is live, and else rides on the syncs of the log.
abbrev pub IsTurn : Bool → Standing → Event → Type 0
IsTurn full s e = (log_event s s.phase ≡ e) ⊎ ((step_of s.stage ≡ Some e) × (is_sync e ≡ true → full ≡ true))

-- how many pages were flushed
abbrev pub page_in : Event → ℕ
page_in (Flush page) = 1
page_in e = 0

abbrev pub pages_in : List Event → ℕ
pages_in [] = 0
pages_in (e ∷ events) = page_in e + pages_in events

-- the pages that the checkpoint under way has left
abbrev pub left_in_part : Part → List ℕ
left_in_part (Flushing left) = left
left_in_part part = []

abbrev pub pages_left : Stage → List ℕ
pages_left Off = []
pages_left (Toward goal part) = left_in_part part
pages_left (Retiring written) = []

-- At most so many were flushed, and fewer only where none is left, or where it ended early.
abbrev pub Flushed : {T : Type 0} → ℕ → ℕ → Stage → Result T Refusal → Type 0
Flushed pages flushed stage (Ok x) = (flushed ≤ pages) × ((flushed ≡ pages) ⊎ (pages_left stage ≡ []))
Flushed pages flushed stage (Err e) = flushed ≤ pages

-- ---- what is done

-- whether it succeeded
abbrev pub done_of : {T : Type 0} → Result T Refusal → Result (Unit {0}) Refusal
done_of (Ok x) = Ok tt
done_of (Err e) = Err e

-- the replies that are given: none with a refusal
abbrev pub told_by : Result (List Reply) Refusal → List Reply
told_by (Ok replies) = replies
told_by (Err e) = []

-- The replica took steps of its own, each in its turn, none of which was refused but the last one, where it ended early. The replies are
-- exactly those that these steps gave. Where the log wasn't full, they flushed at most so many pages; where it was, the checkpoint was ended
-- first. The next block is durable; and with a refusal nothing more is, and nothing that was delivered is lost.
pub record Commits {D : Type 0} (g : Ghosts D) (pages : ℕ) (old new : Replica D) (result : Result (List Reply) Refusal) : Type 0 where
  pub works : WorksBy (IsTurn (is_full (facts_of g old))) g old new (done_of result)
  pub told : acknowledged works.answers ≡ told_by result
  pub flushed : is_full (facts_of g old) ≡ false → Flushed pages (pages_in works.events) (facts_of g new).stage result
  pub whole : is_full (facts_of g old) ≡ true → IfOk result (λ _. (facts_of g new).stage ≡ Off)
  pub block : MatchResult result (λ replies. HasBlock (facts_of g old) replies (facts_of g new)) (λ _. Keeps (facts_of g old) (facts_of g new))

-- ---- piece by piece

-- The checkpoint under way, where one is, was moved on: so many pages may still be flushed; nothing else moved.
pub record Rides {D : Type 0} (g : Ghosts D) (pages : ℕ) (old new : Replica D) (result : Result ℕ Refusal) : Type 0 where
  pub works : WorksBy (IsTurn false) g old new (done_of result)
  pub flushed : MatchResult result (λ left. (pages_in works.events + left ≡ pages) × ((left ≡ 0) ⊎ (pages_left (facts_of g new).stage ≡ []))) (λ _. pages_in works.events ≤ pages)
  pub beside : MatchResult result (λ _. facts_of g new ≡ record (facts_of g old) { stage = (facts_of g new).stage }) (λ _. Keeps (facts_of g old) (facts_of g new))
  pub off : (facts_of g old).stage ≡ Off → IfOk result (λ _. (facts_of g new).stage ≡ Off)

-- nothing became durable, and the same block is to come, for which the log has a cell
pub record Nears (s t : Standing) : Type 0 where
  pub keeps : Keeps s t
  pub coming : coming t ≡ coming s
  pub free : is_full t ≡ false
  pub next : t.next ≡ s.next
  pub off : s.stage ≡ Off → t.stage ≡ Off

-- the block is durable, and pages that might have been flushed are left only where no page is
pub record Ends (s : Standing) (left : ℕ) (replies : List Reply) (t : Standing) : Type 0 where
  pub block : HasBlock s replies t
  pub pages : (left ≡ 0) ⊎ (pages_left t.stage ≡ [])
  pub off : s.stage ≡ Off → t.stage ≡ Off

-- What one turn of the log leads to, with what rides on it where it is a sync: with no reply the block is nearer, and else it is durable.
abbrev pub Leads : Standing → ℕ → List Reply → Standing → Type 0
Leads s left replies t = ((replies ≡ []) × Nears s t) ⊎ Ends s left replies t

abbrev pub told_in : Result (ℕ × List Reply) Refusal → List Reply
told_in (Ok r) = r.1
told_in (Err e) = []

pub record Turns {D : Type 0} (g : Ghosts D) (pages : ℕ) (old new : Replica D) (result : Result (ℕ × List Reply) Refusal) : Type 0 where
  pub works : WorksBy (IsTurn false) g old new (done_of result)
  pub told : acknowledged works.answers ≡ told_in result
  pub flushed : MatchResult result (λ r. pages_in works.events + r.0 ≡ pages) (λ _. pages_in works.events ≤ pages)
  pub leads : MatchResult result (λ r. Leads (facts_of g old) r.0 r.1 (facts_of g new)) (λ _. Keeps (facts_of g old) (facts_of g new))

-- Where the log was full, it has room: the checkpoint was ended, and where that didn't do, another one begun and ended.
pub record Frees {D : Type 0} (g : Ghosts D) (old new : Replica D) (result : Result (Unit {0}) Refusal) : Type 0 where
  pub works : WorksBy (IsTurn true) g old new result
  pub keeps : Keeps (facts_of g old) (facts_of g new)
  pub room : IfOk result (λ _. LeavesRoom (facts_of g old) (facts_of g new) × ((facts_of g new).stage ≡ Off))
