-- Steps of the facts, on any device.
use Rattle.std.specs.Prelude.{◌≡◌, ◌⊎◌, ℕ, zero, suc, ◌+◌, ◌==◌, Bool, true, false, not, ◌&&◌, List, [], ◌∷◌, ◌++◌, map, filter, take, drop, Option, IsTrue, MatchOption}
use Rattle.std.specs.List.{list_any}
use Rattle.rep_types.specs.declared.judged.Judged.{Judged}
use Rattle.rep_types.specs.declared.reply.Reply.{Reply}
use Rattle.rep_types.specs.declared.refusal.Refusal.TheVariants.{OutOfMemory, DiskFault, Corrupt}
use Rattle.rep_types.specs.declared.refusal.Part.TheVariants.{Pages}
use Rattle.rep_types.specs.declared.verdict.Verdict.{Verdict}
use Rattle.rep_types.specs.declared.item.Item.{Item}
use Rattle.rep_types.specs.declared.item.Item.TheVariants.{WriteSet}
use Rattle.rep_types.specs.declared.value.Write.{Write}
use Rattle.rep_types.specs.Settings.{pages_of}
use Rattle.rep_types.specs.Replies.{reply_of}
use Rattle.rep_types.specs.Items.{writes_of}
use Rattle.rep_types.specs.Order.{counts}
use Rattle.rep_disk.specs.Calls.{Rises}
use Rattle.rep_log.specs.Rows.{row_place}
use Rattle.rep_log.specs.declared.phase.Phase.{Phase}
use Rattle.rep_log.specs.declared.phase.Phase.TheVariants.{Resting, Closing, Filling, Filled, Opening}
use Rattle.rep_steps.specs.declared.event.Event.{Event}
use Rattle.rep_steps.specs.declared.event.Event.TheVariants.{Deliver, SetWindow, Log, Sync, Check, Flush, Read}
use Rattle.rep_steps.specs.declared.answer.Answer.{Answer}
use Rattle.rep_steps.specs.declared.answer.Answer.TheVariants.{Gave, Wrote, Began, Synced, Row, Refused}
use Rattle.rep_steps.specs.Events.{change}
use Rattle.rep_steps.specs.Standings.{Part, Flushing, Saving, Ready, SuperFilling, SuperFilled, SuperOpening, Stage, Off, Toward, Retiring, Standing, delivered, gathered, refusal}

-- What a step finds out beyond the facts: the verdict on the item, whether the next cell's gate stands open, the pages that a
-- checkpoint has to write, the row.
pub record Found : Type 0 where
  pub verdict : Verdict
  pub stale : Bool
  pub left : List ℕ
  pub row : Option (List ℕ)

-- ---- the log

-- how many items, and how many cells, the next sync makes durable
abbrev pub opening : Phase → ℕ
opening (Opening k) = k
opening phase = 0

abbrev pub taken : Phase → ℕ
taken (Opening k) = 1
taken phase = 0

-- what the log writes next: the closed gate of a stale cell, the block, the open gate
abbrev pub logged : ℕ → Bool → Phase → Phase
logged k true Resting = Closing
logged k false Resting = Filling k
logged k stale Closing = Closing
logged k stale (Filling m) = Filling m
logged k stale (Filled m) = Opening m
logged k stale (Opening m) = Opening m

abbrev pub synced_phase : Phase → Phase
synced_phase Resting = Resting
synced_phase Closing = Resting
synced_phase (Filling k) = Filled k
synced_phase (Filled k) = Filled k
synced_phase (Opening k) = Resting

-- the replies to the origins of the items that the next sync makes durable
abbrev pub replies : Standing → List Reply
replies s = map reply_of (take (opening s.phase) s.ahead)

-- ---- the checkpoint

-- the numbers below this one
abbrev pub below : ℕ → List ℕ
below zero = []
below (suc n) = below n ++ n ∷ []

-- whether an item that took effect wrote a row of the page
abbrev pub is_touched : List ℕ → List Judged → ℕ → Bool
is_touched rows items page =
    list_any (λ (j : Judged). counts j && list_any (λ (write : Write). (row_place rows write.key).page == page) (writes_of j.item)) items

-- the pages that these items changed, each once and in ascending order
abbrev pub touched : List ℕ → List Judged → List ℕ
touched rows items = filter (is_touched rows items) (below (pages_of rows))

abbrev pub check_answer : Standing → Stage → Answer
check_answer s Off = Began s.durable
check_answer s stage = Wrote

-- what a check makes of the stage, where it is due
abbrev pub next_part : Part → Part
next_part (Flushing left) = Saving
next_part Ready = SuperFilling
next_part SuperFilled = SuperOpening
next_part part = part

abbrev pub checked : Standing → List ℕ → Stage → Stage
checked s left Off = Toward (record { position = s.durable; start = s.next }) (Flushing left)
checked s left (Toward goal part) = Toward goal (next_part part)
checked s left (Retiring written) = Retiring true

-- a page is no longer left
abbrev pub without : ℕ → Part → Part
without page (Flushing left) = Flushing (filter (λ (p : ℕ). not (p == page)) left)
without page part = part

abbrev pub flushed : ℕ → Stage → Stage
flushed page Off = Off
flushed page (Toward goal part) = Toward goal (without page part)
flushed page (Retiring written) = Retiring written

-- what a sync makes of it
abbrev pub synced_stage : Stage → Stage
synced_stage (Toward goal Saving) = Toward goal Ready
synced_stage (Toward goal SuperFilling) = Toward goal SuperFilled
synced_stage (Toward goal SuperOpening) = Retiring false
synced_stage (Retiring true) = Off
synced_stage stage = stage

-- the base, and the first cell that is still needed, that the next sync leaves
abbrev pub base_after : ℕ → Stage → ℕ
base_after base (Toward goal SuperOpening) = goal.position
base_after base stage = base

abbrev pub start_after : ℕ → Stage → ℕ
start_after start (Toward goal SuperOpening) = goal.start
start_after start stage = start

-- ---- a step

-- the next item with its verdict
abbrev pub next_item : Standing → Item → Verdict → Judged
next_item s i v = record { seqno = delivered s + 1; item = i; verdict = v }

-- the facts with this one more
abbrev pub with_item : Standing → Item → Verdict → Standing
with_item s i v = record s { ahead = s.ahead ++ next_item s i v ∷ [] }

abbrev pub answer : Standing → Event → Found → Answer
answer s (Deliver seqno w) found = Gave found.verdict
answer s (SetWindow seqno size source trx) found = Gave found.verdict
answer s Log found = Wrote
answer s Sync found = Synced (replies s)
answer s Check found = check_answer s s.stage
answer s (Flush page) found = Wrote
answer s (Read key at) found = Row found.row

abbrev pub after : Standing → Event → Found → Standing
after s (Deliver seqno w) found = with_item s (WriteSet w) found.verdict
after s (SetWindow seqno size source trx) found = with_item s (change size source trx) found.verdict
after s Log found = record s { phase = logged (gathered s) found.stale s.phase }
after s Sync found = record s {
  base = base_after s.base s.stage;
  durable = s.durable + opening s.phase;
  ahead = drop (opening s.phase) s.ahead;
  phase = synced_phase s.phase;
  next = s.next + taken s.phase;
  start = start_after s.start s.stage;
  stage = synced_stage s.stage;
}
after s Check found = record s { stage = checked s found.left s.stage }
after s (Flush page) found = record s { stage = flushed page s.stage }
after s (Read key at) found = s

-- Whether the event, where no refusal applies, may grow memory, and whether it calls the device. Room for what items wrote is
-- taken before the next block is written, so that nothing but its beginning takes any for the log.
abbrev pub is_at_rest : Phase → Bool
is_at_rest Resting = true
is_at_rest phase = false

abbrev pub is_off : Stage → Bool
is_off Off = true
is_off stage = false

abbrev pub takes_memory : Standing → Event → Bool
takes_memory s Log = is_at_rest s.phase
takes_memory s Check = is_off s.stage
takes_memory s e = false

abbrev pub takes_device : Standing → Event → Bool
takes_device s (Deliver seqno w) = false
takes_device s (SetWindow seqno size source trx) = false
takes_device s Check = not (is_off s.stage)
takes_device s e = true

abbrev pub reads_a_page : Event → Bool
reads_a_page (Flush page) = true
reads_a_page (Read key at) = true
reads_a_page e = false

-- The step failed: memory was wanted and nothing changed, or the device failed, and the replica is stopped.
abbrev pub Fails : Standing → Event → Answer → Standing → Type 0
Fails s e a t =
    (IsTrue (takes_memory s e) × (a ≡ Refused OutOfMemory) × (t ≡ s))
    ⊎ (IsTrue (takes_device s e) × (a ≡ Refused DiskFault) × Rises s.failures t.failures × (t ≡ record s { failures = t.failures; stopped = true }))

-- a page that it read is not of its form
abbrev pub MeetsCorruption : Standing → Event → Answer → Standing → Type 0
MeetsCorruption s e a t = IsTrue (reads_a_page e) × (a ≡ Refused (Corrupt Pages)) × (t ≡ s)

-- An event at s, its answer, and the facts t after it, on any device.
abbrev pub Moves : Standing → Event → Answer → Standing → Type 0
Moves s e a t = MatchOption (refusal s e)
    (((found : Found) × (a ≡ answer s e found) × (t ≡ after s e found)) ⊎ (Fails s e a t ⊎ MeetsCorruption s e a t))
    (λ r. (a ≡ Refused r) × (t ≡ s))
