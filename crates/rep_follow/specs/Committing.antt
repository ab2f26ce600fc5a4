-- How a node makes all that was delivered durable, and tells it.
use Rattle.std.specs.Prelude.{◌≡◌, ◌⊎◌, ◌&&◌, Bool, true, false, nat_lt, nat_le, ℕ, ◌+◌, ◌*◌, ◌-◌, ◌<◌, ◌≤◌, List, [], ◌∷◌, ◌++◌, length, map, take, drop, Option, Result, Ok, Err, OnOk, IfErr, MatchResult}
use Rattle.std.specs.Io.KnownBytes.{Appends}
use Rattle.rep_types.specs.declared.item.Item.{Item}
use Rattle.rep_types.specs.declared.judged.Judged.{Judged}
use Rattle.rep_types.specs.declared.reply.Reply.{Reply}
use Rattle.rep_types.specs.declared.refusal.Refusal.{Refusal}
use Rattle.rep_types.specs.declared.refusal.Refusal.TheVariants.{StreamFault, Stopped, OutOfMemory}
use Rattle.rep_types.specs.Replies.{reply_of}
use Rattle.rep_disk.specs.declared.disk.Disk.{Ghosts}
use Rattle.rep_log.specs.declared.phase.Phase.TheVariants.{Resting}
use Rattle.rep_steps.specs.declared.event.Event.{Event}
use Rattle.rep_steps.specs.declared.answer.Answer.{Answer}
use Rattle.rep_steps.specs.declared.answer.Answer.TheVariants.{Refused}
use Rattle.rep_steps.specs.Standings.{Standing, Flushing, Toward}
use Rattle.rep_steps.specs.Moves.{is_off}
use Rattle.rep_steps.specs.Runs.{accepted_by}
use Rattle.rep_replica.specs.Replicas.{Replica, facts_of}
use Rattle.rep_replica.specs.Episodes.{Episode, Runs, GivesUp, Brings, Breaks, AreEpisodes, replies_of}
use Rattle.rep_replica.specs.Settling.{EndsEarly}
use Rattle.rep_follow.specs.declared.counts.Counts.{Counts}
use Rattle.rep_follow.specs.Receipts.{receipt_lines}
use Rattle.rep_follow.specs.Counting.{AreCounted, checkpoints_in}

-- These are the receipts of the first items that were not durable, and of those that were judged behind them: they are durable now, each receipt is
-- that of its item, in order and once. Nothing else that was delivered is lost.
pub record IsDurableBy (s : Standing) (judged : List Judged) (receipts : List Reply) (t : Standing) : Type 0 where
  pub within : length receipts ≤ length (s.ahead ++ judged)
  pub are : receipts ≡ map reply_of (take (length receipts) (s.ahead ++ judged))
  pub durable : t.durable ≡ s.durable + length receipts
  pub ahead : t.ahead ≡ drop (length receipts) (s.ahead ++ judged)

abbrev pub item_of : Judged → Item
item_of j = j.item

-- Parts of a life to which no snapshot comes: in each of them the replica ran, with an answer to each event, or what was begun was given up, as
-- what only asks the device is.
abbrev pub BringNothing : {D : Type 0} → List (Episode D) → Type 0
BringNothing [] = Unit {0}
BringNothing (Runs events answers to ∷ es) = (length events ≡ length answers) × BringNothing es
BringNothing (GivesUp to ∷ es) = BringNothing es
BringNothing (Brings uuid y to ∷ es) = ⊥
BringNothing (Breaks uuid y to ∷ es) = ⊥

-- the items that were delivered in the runs
abbrev pub accepted_in : {D : Type 0} → List (Episode D) → List Item
accepted_in [] = []
accepted_in (Runs events answers to ∷ es) = accepted_by events answers ++ accepted_in es
accepted_in (GivesUp to ∷ es) = accepted_in es
accepted_in (Brings uuid y to ∷ es) = accepted_in es
accepted_in (Breaks uuid y to ∷ es) = accepted_in es

-- A part of a life went by, one episode after another: these items were delivered to the replica, and these receipts are the replies that it gave.
pub record Follows {D : Type 0} (g : Ghosts D) (old new : Replica D) (items : List Item) (receipts : List Reply) : Type 0 where
  pub episodes : List (Episode D)
  pub are : AreEpisodes g old episodes new
  pub own : BringNothing episodes
  pub accepted : accepted_in episodes ≡ items
  pub given : replies_of episodes ≡ receipts
  pub judged : List Judged
  pub are_items : map item_of judged ≡ items
  pub durable : IsDurableBy (facts_of g old) judged receipts (facts_of g new)

-- The last step that was taken was refused so.
abbrev pub IsLastAnswer : {D : Type 0} → List (Episode D) → Refusal → Type 0
IsLastAnswer {D} episodes e = (before : List (Episode D)) × (events : List Event) × (done : List Answer) × (to : Replica D) × (episodes ≡ before ++ Runs events (done ++ Refused e ∷ []) to ∷ [])

-- Want of memory, a fault of the device and a corrupt page are told only where the last step was refused so.
abbrev pub EndsAsAnswered : {D T : Type 0} → List (Episode D) → Result T Refusal → Type 0
EndsAsAnswered episodes result = IfErr result (λ e. EndsEarly e → IsLastAnswer episodes e)

-- The replica is held up by this refusal: it is stopped; or a step was refused for want of memory, by the device, or at a corrupt page.
abbrev pub IsHeldUp : {D : Type 0} → Ghosts D → Replica D → Refusal → Type 0
IsHeldUp g new e = ((e ≡ Stopped) × ((facts_of g new).stopped ≡ true)) ⊎ EndsEarly e

-- What is written of receipts: all of them. Where the writer failed, those of all blocks but the last are written, and a front of that one's.
abbrev pub Written : List Reply → Option (List ℕ) → Option (List ℕ) → Result (Unit {0}) Refusal → Type 0
Written receipts before after (Err StreamFault) =
    (front last : List Reply) × (k : ℕ) × (receipts ≡ front ++ last) × (length last ≤ 64) × Appends before after (receipt_lines front ++ take k (receipt_lines last))
Written receipts before after result = Appends before after (receipt_lines receipts)

-- The node went on: these items were delivered, and what became durable was told. So a receipt is written of a durable item alone; and all but a
-- part of the last block's are written, where the writer failed. The counters rose by what was done, of these lines by each whose text is no item. Where it ended well, a log that was at rest is
-- at rest again; and a refusal of a step is the last answer.
pub record Goes {D : Type 0} (g : Ghosts D) (old new : Replica D) (items : List Item) (lines : List (List ℕ)) (was now : Counts) (before after : Option (List ℕ)) (result : Result (Unit {0}) Refusal) : Type 0 where
  pub receipts : List Reply
  pub follows : Follows g old new items receipts
  pub written : Written receipts before after result
  pub counted : AreCounted g old follows.episodes items lines receipts was now
  pub rests : (facts_of g old).phase ≡ Resting → OnOk result ((facts_of g new).phase ≡ Resting)
  pub early : EndsAsAnswered follows.episodes result

-- The next block became durable, and was told: with a refusal nothing more is durable, but where the writer failed.
abbrev pub WrittenNext : List Reply → Option (List ℕ) → Option (List ℕ) → Result (Unit {0}) Refusal → Type 0
WrittenNext receipts before after (Ok _) = (0 < length receipts) × Appends before after (receipt_lines receipts)
WrittenNext receipts before after (Err StreamFault) = (k : ℕ) × Appends before after (take k (receipt_lines receipts))
WrittenNext receipts before after (Err refusal) = (receipts ≡ []) × Appends before after []

-- What is told of it is counted, and a refusal of a step is the last answer.
pub record TellsNext {D : Type 0} (g : Ghosts D) (old new : Replica D) (was now : Counts) (before after : Option (List ℕ)) (result : Result (Unit {0}) Refusal) : Type 0 where
  pub receipts : List Reply
  pub follows : Follows g old new [] receipts
  pub few : length receipts ≤ 64
  pub written : WrittenNext receipts before after result
  pub counted : AreCounted g old follows.episodes [] [] receipts was now
  pub rests : OnOk result ((facts_of g new).phase ≡ Resting)
  pub early : EndsAsAnswered follows.episodes result

-- All that was delivered became durable, and was told, those of a block before the next one is begun. Where something had waited, the log is at rest
-- then.
pub record TellsAll {D : Type 0} (g : Ghosts D) (old new : Replica D) (was now : Counts) (before after : Option (List ℕ)) (result : Result (Unit {0}) Refusal) : Type 0 where
  pub goes : Goes g old new [] [] was now before after result
  pub all : OnOk result ((facts_of g new).ahead ≡ [])
  pub rests : 0 < length (facts_of g old).ahead → OnOk result ((facts_of g new).phase ≡ Resting)

-- ---- a checkpoint that begins

-- Whether a checkpoint is due to begin: none is under way; something that is durable is above the base; and at least half of the log's cells are
-- live. What waits to become durable changes nothing.
abbrev pub is_checkpoint_due : Standing → Bool
is_checkpoint_due s = is_off s.stage && (nat_lt s.base s.durable && nat_le s.setting.cells (2 * (s.next - s.start)))

-- A checkpoint to what is durable has begun, with some pages left, and nothing else moved.
abbrev pub HasBegun : Standing → Standing → Type 0
HasBegun s t = (left : List ℕ) × (t ≡ record s { stage = Toward (record { position = s.durable; start = s.next }) (Flushing left) })

-- A checkpoint began exactly where one was due, unless that was refused; and else nothing changed. Nothing is delivered, and no reply given.
pub record Begins {D : Type 0} (g : Ghosts D) (old new : Replica D) (result : Result (Unit {0}) Refusal) : Type 0 where
  pub follows : Follows g old new [] []
  pub still : checkpoints_in g old follows.episodes ≡ 0
  pub answered : IfErr result (IsLastAnswer follows.episodes)
  pub phase : (facts_of g new).phase ≡ (facts_of g old).phase
  pub not_due : is_checkpoint_due (facts_of g old) ≡ false → (result ≡ Ok tt) × (new ≡ old)
  pub due : is_checkpoint_due (facts_of g old) ≡ true
      → MatchResult result (λ _. HasBegun (facts_of g old) (facts_of g new)) (λ e. (facts_of g new ≡ facts_of g old) × (((e ≡ Stopped) × ((facts_of g new).stopped ≡ true)) ⊎ (e ≡ OutOfMemory)))

-- what follows where that ended well
abbrev pub AndBegins : {D : Type 0} → Ghosts D → Result (Unit {0}) Refusal → Replica D → Replica D → Result (Unit {0}) Refusal → Type 0
AndBegins g (Ok x) mid new result = Begins g mid new result
AndBegins g (Err e) mid new result = (result ≡ Err e) × (new ≡ mid)

-- The next block became durable, and was told; and where that ended well, a checkpoint began if one was due then.
pub record TellsAndBegins {D : Type 0} (g : Ghosts D) (old new : Replica D) (was now : Counts) (before after : Option (List ℕ)) (result : Result (Unit {0}) Refusal) : Type 0 where
  pub mid : Replica D
  pub told : Result (Unit {0}) Refusal
  pub tells : TellsNext g old mid was now before after told
  pub begins : AndBegins g told mid new result

-- a node between two blocks: the replica, what it counted, and what was written
pub record Between (D : Type 0) : Type 0 where
  pub replica : Replica D
  pub counts : Counts
  pub text : Option (List ℕ)

-- Blocks one after another, with the node between each two of them: each became durable and was told, and a checkpoint began after it exactly
-- where one was due. The last of them ended so, and those before it well.
abbrev pub TellsBlocks : {D : Type 0} → Ghosts D → Replica D → Counts → Option (List ℕ) → List (Between D) → Replica D → Counts → Option (List ℕ) → Result (Unit {0}) Refusal → Type 0
TellsBlocks g old was before [] new now after result = TellsAndBegins g old new was now before after result
TellsBlocks g old was before (mid ∷ between) new now after result =
    TellsAndBegins g old mid.replica was mid.counts before mid.text (Ok tt) × TellsBlocks g mid.replica mid.counts mid.text between new now after result

-- ---- pages

-- How many pages of the checkpoint under way go with the next block, where so many cells are free and so many pages are left: so many that it
-- ends before the log is full, and not one more; and all with fewer than 8 cells free.
abbrev pub IsEnough : ℕ → ℕ → ℕ → Type 0
IsEnough free left pages = (pages ≤ left) × ((free < 8 → pages ≡ left) × (8 ≤ free → (left ≤ pages * (free - 7)) × (pages * (free - 7) < left + (free - 7))))
