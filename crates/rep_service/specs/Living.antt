-- What the life of a node was that follows an order: the lines that it was handed, the items that were delivered to it, and what it wrote.
use Rattle.std.specs.Prelude.{◌≡◌, ◌≢◌, ℕ, ◌+◌, ◌-◌, ◌<◌, ◌≤◌, List, [], ◌∷◌, ◌++◌, length, take, drop, Contains, Option, None, Result, Ok, Err, OnOk}
use Rattle.std.specs.List.{AllByRecursion}
use Rattle.std.specs.Io.KnownBytes.{Consumes, IsAtEnd}
use Rattle.rep_types.specs.declared.item.Item.{Item}
use Rattle.rep_types.specs.declared.judged.Judged.{Judged}
use Rattle.rep_types.specs.declared.reply.Reply.{Reply}
use Rattle.rep_types.specs.declared.refusal.Refusal.{Refusal}
use Rattle.rep_types.specs.declared.refusal.Refusal.TheVariants.{WrongCluster}
use Rattle.rep_types.specs.Order.{Order}
use Rattle.rep_disk.specs.declared.disk.Disk.{Ghosts}
use Rattle.rep_lines.specs.Lines.{HasNoFeed}
use Rattle.rep_log.specs.declared.phase.Phase.TheVariants.{Resting}
use Rattle.rep_requests.specs.Requests.{Requested, Nothing, Published, Stated, Read, Sum, State as OwnState, Limits as OwnLimits, Counters as OwnCounters, Donate, Broken, requested}
use Rattle.rep_steps.specs.Nodes.{Node}
use Rattle.rep_engine.specs.Engines.{gtid_of}
use Rattle.rep_engine.specs.Donating.{IsTailBlock}
use Rattle.rep_replica.specs.Replicas.{Replica, facts_of}
use Rattle.rep_replica.specs.Holding.{Holds}
use Rattle.rep_replica.specs.Episodes.{Life}
use Rattle.rep_sum.specs.Sums.{keys_read}
use Rattle.rep_follow.specs.Committing.{Follows}
use Rattle.rep_follow.specs.Followers.{AreOfOrder, IsFedLines}
use Rattle.rep_follow.specs.Taking.{text_of, items_in}
use Rattle.rep_service.specs.Commanding.{window_in}
use Rattle.rep_service.specs.Opening.{OpensOrder, at_line}
use Rattle.rep_service.specs.Passing.{AreLines, items_of}
use Rattle.rep_service.specs.Telling.{TellsTheOrder}
use Rattle.rep_service.specs.Saying.{Said, Logged, Old, Rows, Summed, State, Limits, Counters, Donated, Refused, Writes, receipts_in, passed_in, answers_in, receipts_said}

-- A part of a life: these items were delivered, this was said, with the receipts that were given, and it was written as far as the writer took it. At
-- a node of an order what was said is what the order says. Where it ended well, a log that was at rest is at rest again.
pub record Lives {D : Type 0} (g : Ghosts D) (old new : Replica D) (items : List Item) (said : List Said) (before after : Option (List ℕ)) (result : Result (Unit {0}) Refusal) : Type 0 where
  pub follows : Follows g old new items (receipts_in said)
  pub written : Writes said before after result
  pub told : TellsTheOrder g old items said
  pub rests : (facts_of g old).phase ≡ Resting → OnOk result ((facts_of g new).phase ≡ Resting)

-- ---- what lines are answered

-- The line says what was asked for, or why that is refused.
abbrev pub IsOfKind : Requested → Said → Type 0
IsOfKind (Read keys) (Rows at rows) = keys_read rows ≡ keys
IsOfKind (Sum asked) (Summed of sum) = of ≡ asked
IsOfKind OwnState (State gtid base window) = Unit {0}
IsOfKind OwnLimits (Limits window) = Unit {0}
IsOfKind OwnCounters (Counters level counts) = Unit {0}
IsOfKind (Donate have out) (Donated last) = Unit {0}
IsOfKind request (Refused e) = Unit {0}
IsOfKind request said = ⊥

-- One line is the answer to what asks for something; no line is one to an item, nor to a line without words.
abbrev pub AnswersTo : Requested → List Said → Type 0
AnswersTo Nothing said = said ≡ []
AnswersTo (Published n i) said = said ≡ []
AnswersTo (Stated i) said = said ≡ []
AnswersTo Broken said = said ≡ []
AnswersTo request said = (one : Said) × (said ≡ one ∷ []) × IsOfKind request one

-- So it is with a line, whatever its number is.
abbrev pub AnswersLine : List ℕ → List Said → Type 0
AnswersLine line said = (number : ℕ) × AnswersTo (requested number line) said

-- So it is with lines, in their order.
abbrev pub AnswersLines : List (List ℕ) → List Said → Type 0
AnswersLines [] said = said ≡ []
AnswersLines (line ∷ lines) said = (first : List Said) × (rest : List Said) × (said ≡ first ++ rest) × AnswersLine line first × AnswersLines lines rest

-- Of these lines so many were answered: all of them where it ended well.
pub record AreAnswered (lines : List (List ℕ)) (said : List Said) (result : Result (Unit {0}) Refusal) : Type 0 where
  pub most : ℕ
  pub are : AnswersLines (take most lines) (answers_in said)
  pub all : OnOk result (AnswersLines lines (answers_in said))

-- it is not refused as another cluster's
abbrev pub NotWrongCluster : Result (Unit {0}) Refusal → Type 0
NotWrongCluster result = result ≢ Err WrongCluster

-- ---- lines whose items are delivered

-- What was delivered of these lines are their items from this seqno on, in order and each once: all of them where it went on, and else a front of
-- them. The other lines were answered.
pub record TakesItems {D : Type 0} (g : Ghosts D) (first : ℕ) (lines : List (List ℕ)) (old new : Replica D) (next : ℕ) (before after : Option (List ℕ)) (result : Result (Unit {0}) Refusal) : Type 0 where
  pub items : List Item
  pub said : List Said
  pub lives : Lives g old new items said before after result
  pub most : ℕ
  pub are : items ≡ take most (items_in first lines)
  pub all : OnOk result (items ≡ items_in first lines)
  pub next_is : OnOk result (next ≡ first + length items)
  pub none : passed_in said ≡ []
  pub answers : AreAnswered lines said result
  pub own : NotWrongCluster result

-- So it is with the lines that were handed out in front of the text.
pub record FollowsLines {D : Type 0} (g : Ghosts D) (first : ℕ) (old new : Replica D) (text behind : Option (List ℕ)) (next : ℕ) (before after : Option (List ℕ)) (result : Result (Unit {0}) Refusal) : Type 0 where
  pub lines : List (List ℕ)
  pub handed : Consumes text behind (text_of lines)
  pub takes : TakesItems g first lines old new next before after result

-- ---- lines whose items are durable already

-- Lines were handed out in front of the text, and answered. Nothing was delivered meanwhile, and no receipt given.
pub record HandsLines {D : Type 0} (g : Ghosts D) (old new : Replica D) (text behind : Option (List ℕ)) (before after : Option (List ℕ)) (result : Result (Unit {0}) Refusal) : Type 0 where
  pub lines : List (List ℕ)
  pub handed : Consumes text behind (text_of lines)
  pub said : List Said
  pub lives : Lives g old new [] said before after result
  pub still : receipts_in said ≡ []
  pub none : passed_in said ≡ []
  pub answers : AreAnswered lines said result
  pub own : NotWrongCluster result

-- The next item was reached: the lines before it were answered; or there is none, and the text has ended behind its last line feed.
pub record Reaches {D : Type 0} (g : Ghosts D) (next : ℕ) (old new : Replica D) (left : List ℕ) (rest text behind before after : Option (List ℕ)) (found : Option Item) : Type 0 where
  pub hands : HandsLines g old new text behind before after (Ok tt)
  pub are : AreLines next hands.lines (items_of found)
  pub ended : found ≡ None → HasNoFeed left × IsAtEnd rest

-- It ended before the next item was reached: none of the lines that were handed out is it.
pub record Misses {D : Type 0} (g : Ghosts D) (next : ℕ) (old new : Replica D) (text behind before after : Option (List ℕ)) (e : Refusal) : Type 0 where
  pub hands : HandsLines g old new text behind before after (Err e)
  pub none : items_in next hands.lines ≡ []

-- What is said of the item with this seqno: that the log has it no more; or its receipt as the log has it, where the log's record is of this very item.
abbrev pub IsPassed : ℕ → Item → Said → Type 0
IsPassed seqno i (Old n) = n ≡ seqno
IsPassed seqno i (Logged j) = (j.seqno ≡ seqno) × (j.item ≡ i)
IsPassed seqno i said = ⊥

-- So it is with items from this seqno on, in order and each once.
abbrev pub ArePassed : ℕ → List Item → List Said → Type 0
ArePassed seqno [] said = said ≡ []
ArePassed seqno (i ∷ items) [] = ⊥
ArePassed seqno (i ∷ items) (one ∷ said) = IsPassed seqno i one × ArePassed (seqno + 1) items said

-- Only of an item at or below the base it is said that the log has it no more; and what is said as the log has it is one of these records.
abbrev pub IsFrom : ℕ → (Judged → Type 0) → Said → Type 0
IsFrom base Has (Old n) = n ≤ base
IsFrom base Has (Logged j) = Has j
IsFrom base Has said = Unit {0}

-- The item behind those that were passed over, which is the last one of these lines, is another one than that of the record of its seqno.
pub record Differs (Has : Judged → Type 0) (first : ℕ) (lines : List (List ℕ)) (said : List Said) : Type 0 where
  pub judged : Judged
  pub has : Has judged
  pub item : Item
  pub next : drop (length (passed_in said)) (items_in (first + 1) lines) ≡ item ∷ []
  pub seqno_is : judged.seqno ≡ (first + 1) + length (passed_in said)
  pub another : item ≢ judged.item

-- Items of these lines were passed over, from behind this position on: all of them where it went on, and else a front of them. It is refused as another
-- cluster's where one of them was not passed over, and only where that one differs.
pub record Passed (base : ℕ) (Has : Judged → Type 0) (first : ℕ) (lines : List (List ℕ)) (said : List Said) (result : Result (Unit {0}) Refusal) : Type 0 where
  pub most : ℕ
  pub are : ArePassed (first + 1) (take most (items_in (first + 1) lines)) (passed_in said)
  pub all : OnOk result (ArePassed (first + 1) (items_in (first + 1) lines) (passed_in said))
  pub from : AllByRecursion (IsFrom base Has) said
  pub missed : length (passed_in said) < length (items_in (first + 1) lines) → result ≡ Err WrongCluster
  pub differs : result ≡ Err WrongCluster → Differs Has first lines said

-- Lines were handed out whose items were passed over: where it went on, the position rose by one for each of them. The other lines were answered; nothing was
-- delivered, and no receipt given of an item that became durable.
pub record PassesLines {D : Type 0} (g : Ghosts D) (base : ℕ) (Has : Judged → Type 0) (first : ℕ) (old new : Replica D) (text behind : Option (List ℕ)) (position : ℕ) (before after : Option (List ℕ)) (result : Result (Unit {0}) Refusal) : Type 0 where
  pub lines : List (List ℕ)
  pub handed : Consumes text behind (text_of lines)
  pub said : List Said
  pub lives : Lives g old new [] said before after result
  pub still : receipts_in said ≡ []
  pub position_is : OnOk result (position ≡ first + length (items_in (first + 1) lines))
  pub passed : Passed base Has first lines said result
  pub answers : AreAnswered lines said result

-- The record is one of the log behind the base: it stood in a durable block as the log was read, at a replica to which nothing had been delivered.
pub record IsOfLog {D : Type 0} (g : Ghosts D) (old : Replica D) (j : Judged) : Type 0 where
  pub at : Replica D
  pub follows : Follows g old at [] []
  pub index : ℕ
  pub records : List Judged
  pub block : (n : Node) → Holds g n at → IsTailBlock n at.engine.layout (g.history at.engine.disk) at.engine.checkpoint.base at.engine.log index records
  pub has : Contains records j

-- ---- an order

-- how many items are durable behind the position
abbrev pub passed_before : {D : Type 0} → Ghosts D → ℕ → Replica D → ℕ
passed_before g position r = (facts_of g r).durable - position

-- The lines of an order behind this position were handed out. What was delivered are their items behind those that were durable already, in order
-- and each once: all of them where it ended well, and else a front of them. Of those that were durable it was said in order, of each once, that the log
-- has it no more, or its receipt as the log has it; and the other lines were answered, before what closes the text. It is refused as another cluster's where
-- an item of these was handed out and nothing said of it, and only where that is another one than the log's: so one that differs is refused so, and in no other way.
pub record FollowsOrder {D : Type 0} (g : Ghosts D) (position : ℕ) (old new : Replica D) (text behind : Option (List ℕ)) (before after : Option (List ℕ)) (closing : List Said) (result : Result (Unit {0}) Refusal) : Type 0 where
  pub lines : List (List ℕ)
  pub items : List Item
  pub said : List Said
  pub handed : Consumes text behind (text_of lines)
  pub lives : Lives g old new items (said ++ closing) before after result
  pub most : ℕ
  pub are : items ≡ take most (drop (passed_before g position old) (items_in (position + 1) lines))
  pub all : OnOk result (items ≡ drop (passed_before g position old) (items_in (position + 1) lines))
  pub passed : ℕ
  pub are_passed : ArePassed (position + 1) (take passed (items_in (position + 1) lines)) (passed_in said)
  pub all_passed : OnOk result (ArePassed (position + 1) (take (passed_before g position old) (items_in (position + 1) lines)) (passed_in said))
  pub from : AllByRecursion (IsFrom old.engine.checkpoint.base.position (IsOfLog g old)) said
  pub missed : length (passed_in said) < passed_before g position old → length (passed_in said) < length (items_in (position + 1) lines) → result ≡ Err WrongCluster
  pub differs : result ≡ Err WrongCluster → Differs (IsOfLog g old) position lines said
  pub answers : AreAnswered lines said result

-- What closes a text that ended well: what became durable last, and the state.
abbrev pub ClosesWell : {D : Type 0} → Replica D → List Said → Type 0
ClosesWell r closing = (receipts : List Reply) × (closing ≡ receipts_said receipts ++ State (gtid_of r.engine) r.engine.checkpoint.base.position (window_in r).entries ∷ [])

-- What follows the opening of an order: where that was refused, nothing; else the order is followed from this position on, to the end of the text where it
-- ends well.
abbrev pub FollowsBehind : {D : Type 0} → Ghosts D → Result ℕ Refusal → Replica D → Replica D → Option (List ℕ) → Option (List ℕ) → Option (List ℕ) → Result (Unit {0}) Refusal → Type 0
FollowsBehind g (Err e) old new text before after result = (result ≡ Err e) × (new ≡ old) × (after ≡ before)
FollowsBehind g (Ok position) old new text before after result =
    (position ≤ (facts_of g old).durable)
    × ((behind : Option (List ℕ)) × (closing : List Said) × FollowsOrder g position old new text behind before after closing result × OnOk result (IsAtEnd behind × ClosesWell new closing))

-- A text was followed: its first line with words said which order it is, and from where it goes on; that was refused, or told; and then the order
-- was followed.
pub record FollowsText {D : Type 0} (g : Ghosts D) (old new : Replica D) (text : Option (List ℕ)) (before after : Option (List ℕ)) (result : Result (Unit {0}) Refusal) : Type 0 where
  pub begun : Result ℕ Refusal
  pub left : List ℕ
  pub rest : Option (List ℕ)
  pub opened : Option (List ℕ)
  pub told : Option (List ℕ)
  pub opens : OpensOrder (facts_of g old) (at_line (gtid_of old.engine) old.engine.checkpoint.base.position) 0 left rest text opened before told begun
  pub follows : FollowsBehind g begun old new opened told after result

-- ---- a life of it

-- A life in which lines of the order were followed so, from this position on, was fed lines of it: so lives of this kind follow the order.
abbrev pub FollowersAreFed : {D : Type 0} → Ghosts D → Type 0
FollowersAreFed {D} g =
    (O : Order) (life : Life D) (position : ℕ) (new : Replica D) (text behind before after : Option (List ℕ)) (closing : List Said) (result : Result (Unit {0}) Refusal) (f : FollowsOrder g position life.start new text behind before after closing result)
    → position ≤ (facts_of g life.start).durable → AreOfOrder O position f.lines → life.past ++ life.begun ≡ f.lives.follows.episodes → IsFedLines g O life
