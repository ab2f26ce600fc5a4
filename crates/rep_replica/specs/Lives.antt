-- Lives of a replica: opened on what a stop left, run, and stopped again.
use Rattle.std.specs.Prelude.{◌≡◌, ℕ, pos, negsuc, ◌-◌, ◌≤◌, List, [], ◌∷◌, ◌++◌, length, map, take, drop, Contains, if◌then◌else◌}
use Rattle.uuid.specs.Parts.{is_nil_bytes}
use Rattle.rep_types.specs.declared.judged.Judged.{Judged}
use Rattle.rep_types.specs.declared.reply.Reply.{Reply}
use Rattle.rep_types.specs.Gtids.{Gtid}
use Rattle.rep_types.specs.Replies.{reply_of}
use Rattle.rep_types.specs.Settings.{Setting}
use Rattle.rep_types.specs.Order.{Order, history as history_of, read, state}
use Rattle.rep_disk.specs.declared.disk.Disk.{Ghosts}
use Rattle.rep_disk.specs.History.{History, seen}
use Rattle.rep_disk.specs.Moments.{moment, ImageSince}
use Rattle.rep_steps.specs.declared.event.Event.{Event}
use Rattle.rep_steps.specs.declared.event.Event.TheVariants.{Read}
use Rattle.rep_steps.specs.declared.answer.Answer.{Answer}
use Rattle.rep_steps.specs.declared.answer.Answer.TheVariants.{Row}
use Rattle.rep_steps.specs.Standings.{delivered}
use Rattle.rep_steps.specs.Nodes.{Node, IsNode, Steps, state_at}
use Rattle.rep_steps.specs.Orders.{IsOf}
use Rattle.rep_steps.specs.Runs.{Runs, accepted_by, verdicts, acknowledged, ComesTo, AnswersOf}
use Rattle.rep_steps.specs.Images.{IsFrontOf}
use Rattle.rep_recover.specs.Meanings.{Means}
use Rattle.rep_recover.specs.Engines.{gtid_of}
use Rattle.rep_replica.specs.Replicas.{Replica, facts_of}
use Rattle.rep_replica.specs.Holding.{Holds}
use Rattle.rep_replica.specs.Running.{Ran}
use Rattle.rep_replica.specs.Opening.{Opens}

-- ---- what happens in a life

-- A life: what was asked of the device before the opening; the replica that was opened; the events that it answered, the answers, and
-- the replica then; what it was doing when it was stopped, that is the events of the call that had not returned (none where the stop
-- came between two calls), the answers that nobody was given, and the replica where that call would have ended; and what the stop left.
pub record Life (D : Type 0) : Type 0 where
  pub old : History
  pub start : Replica D
  pub events : List Event
  pub answers : List Answer
  pub mid : Replica D
  pub begun : List Event
  pub untold : List Answer
  pub last : Replica D
  pub left : List ℕ

-- A life on this image: the replica was opened on it and ran the events; and the stop came at a moment behind the last answer, before
-- or within the call that had begun.
pub record IsLife {D : Type 0} (g : Ghosts D) (image : List ℕ) (life : Life D) : Type 0 where
  pub on : seen life.old ≡ image
  pub opens : Opens g life.old life.start
  pub ran : Ran g life.start life.mid life.events life.answers
  pub ran_on : Ran g life.mid life.last life.begun life.untold
  pub stop : ImageSince (g.history life.last.engine.disk) (moment (g.history life.mid.engine.disk)) life.left

-- Lives one after another, each on what the stop before it left.
abbrev pub Lives : {D : Type 0} → Ghosts D → List ℕ → List (Life D) → Type 0
Lives g image [] = Unit {0}
Lives g image (life ∷ lives) = IsLife g image life × Lives g life.left lives

-- What a life delivered are the order's items from where it stood.
pub record IsFed {D : Type 0} (g : Ghosts D) (O : Order) (life : Life D) : Type 0 where
  pub rest : Order
  pub whole : ((take (facts_of g life.start).durable O ++ accepted_by life.events life.answers) ++ accepted_by life.begun life.untold) ++ rest ≡ O

abbrev pub AreFed : {D : Type 0} → Ghosts D → Order → List (Life D) → Type 0
AreFed g O [] = Unit {0}
AreFed g O (life ∷ lives) = IsFed g O life × AreFed g O lives

-- ---- what comes of it

-- A row that was read is the order's at that position.
abbrev pub IsRowOf : Setting → Order → Event → Answer → Type 0
IsRowOf p O (Read key at) (Row row) = row ≡ read p O key at
IsRowOf p O e a = Unit {0}

abbrev pub AreRowsOf : Setting → Order → List Event → List Answer → Type 0
AreRowsOf p O [] answers = Unit {0}
AreRowsOf p O (e ∷ events) [] = Unit {0}
AreRowsOf p O (e ∷ events) (a ∷ answers) = IsRowOf p O e a × AreRowsOf p O events answers

-- Each of these replies is that of one of the items.
abbrev pub AreRepliesOf : List Judged → List Reply → Type 0
AreRepliesOf items given = (reply : Reply) → Contains given reply → Contains (map reply_of items) reply

-- A node that never stopped: it began with the empty order, and was fed this one.
pub record NeverStopped (p : Setting) (O : Order) (events : List Event) (answers : List Answer) (last : Node) : Type 0 where
  pub first : Node
  pub node : IsNode first
  pub empty : IsOf [] first
  pub setting : first.facts.setting ≡ p
  pub runs : Runs Steps first events answers last
  pub fed : accepted_by events answers ≡ O

-- What a run answered from n to m is what such a node answered to the same items: the verdicts, and, as far as it has made them durable,
-- the replies.
pub record AnswersAs (n m : Node) (answers : List Answer) (last : Node) (told : List Answer) : Type 0 where
  pub judged : verdicts answers ≡ take (delivered m.facts - delivered n.facts) (drop (delivered n.facts) (verdicts told))
  pub replied : m.facts.durable ≤ last.facts.durable → acknowledged answers ≡ take (m.facts.durable - n.facts.durable) (drop n.facts.durable (acknowledged told))

-- What a run comes to in a life, of this order, at a node of a front of it: the verdicts and the replies are those that the order has
-- behind what was delivered and durable before, each once and in order, and those of a node that never stopped; the rows that were read
-- are the order's. And it leads to a node of a longer front, with what was delivered.
pub record Follows (O : Order) (L : Order) (n : Node) (events : List Event) (answers : List Answer) (m : Node) : Type 0 where
  pub answers_are : AnswersOf O n answers m
  pub as_unbroken : (all : List Event) (told : List Answer) (last : Node) → NeverStopped n.facts.setting O all told last → AnswersAs n m answers last told
  pub rows : AreRowsOf n.facts.setting O events answers
  pub comes : ComesTo L n events answers m

-- the GTID of a position; that of a node without a cluster is the nil UUID and -1 (Galera documentation)
abbrev pub gtid_at : List ℕ → ℕ → Gtid
gtid_at uuid position = record { uuid = uuid; seqno = if is_nil_bytes uuid then negsuc 0 else pos position }

-- What opening the disk gives: a front of the order, of this many of its items, with at least d of them, at most h, and each item to
-- whose origin a reply was given. GTID, rows and window are those behind this front. And the replica stands for a node of it.
pub record OpensOn {D : Type 0} (g : Ghosts D) (uuid : List ℕ) (p : Setting) (O : Order) (d h : ℕ) (given : List Reply) (r : Replica D) (position : ℕ) (n : Node) : Type 0 where
  pub least : d ≤ position
  pub most : position ≤ h
  pub within : position ≤ length O
  pub kept : AreRepliesOf (take position (history_of p O)) given
  pub durable : (facts_of g r).durable ≡ position
  pub delivered_is : delivered (facts_of g r) ≡ position
  pub gtid : gtid_of r.engine ≡ gtid_at uuid position
  pub state_is : state_at n position ≡ state p (take position O)
  pub holds : Holds g n r
  pub uuid_is : n.facts.uuid ≡ uuid
  pub setting_is : n.facts.setting ≡ p
  pub of : IsOf (take position O) n

-- A life follows the order, of which d items were durable before it and h delivered, and these replies given: opened on a front of the
-- order, it goes on as a node that never stopped, with what it answered and with what it had begun; and what the stop left stands
-- for a front of what was delivered that has all that was durable behind the last answer.
pub record LifeFollows {D : Type 0} (g : Ghosts D) (uuid : List ℕ) (p : Setting) (O : Order) (d h : ℕ) (given : List Reply) (life : Life D) : Type 0 where
  pub position : ℕ
  pub start : Node
  pub opens : OpensOn g uuid p O d h given life.start position start
  pub mid : Node
  pub came : Holds g mid life.mid
  pub follows : Follows O (take position O) start life.events life.answers mid
  pub last : Node
  pub went_on : Holds g last life.last
  pub follows_on : Follows O (take position O ++ accepted_by life.events life.answers) mid life.begun life.untold last
  pub front : IsFrontOf Means uuid p (take (delivered (facts_of g life.last)) O) (facts_of g life.mid).durable life.left

-- Each life begins on a front that has what was durable behind the last answer of the one before it, and no more than was delivered
-- in that; and so each item to whose origin any of them replied.
abbrev pub LivesFollow : {D : Type 0} → Ghosts D → List ℕ → Setting → Order → ℕ → ℕ → List Reply → List (Life D) → Type 0
LivesFollow g uuid p O d h given [] = Unit {0}
LivesFollow g uuid p O d h given (life ∷ lives) =
    LifeFollows g uuid p O d h given life
    × LivesFollow g uuid p O (facts_of g life.mid).durable (delivered (facts_of g life.last)) (given ++ acknowledged life.answers) lives

-- Lives that are fed an order follow it, from an image on that stands for a front of the h items of it that were delivered, with d of
-- them.
abbrev pub LivesFollowTheOrder : {D : Type 0} → Ghosts D → Type 0
LivesFollowTheOrder {D} g =
    (uuid : List ℕ) (p : Setting) (O : Order) (d h : ℕ) (image : List ℕ) (lives : List (Life D)) → IsFrontOf Means uuid p (take h O) d image → Lives g image lives → AreFed g O lives
    → LivesFollow g uuid p O d h [] lives
