-- Lives of a replica to which snapshots of its cluster come too: opened on what a stop left, run, brought snapshots, and stopped again.
use Rattle.std.specs.Prelude.{◌≡◌, ◌⊎◌, ℕ, ◌+◌, ◌<◌, ◌≤◌, List, [], ◌∷◌, ◌++◌, length, take}
use Rattle.rep_types.specs.declared.reply.Reply.{Reply}
use Rattle.rep_types.specs.Settings.{Setting}
use Rattle.rep_types.specs.Order.{Order, State, state}
use Rattle.rep_disk.specs.declared.disk.Disk.{Ghosts}
use Rattle.rep_disk.specs.History.{History, seen}
use Rattle.rep_disk.specs.Moments.{moment, ImageSince, LeavesOnly}
use Rattle.rep_layout.specs.Supers.{IsNil}
use Rattle.rep_steps.specs.declared.event.Event.{Event}
use Rattle.rep_steps.specs.declared.answer.Answer.{Answer}
use Rattle.rep_steps.specs.Standings.{delivered}
use Rattle.rep_steps.specs.Nodes.{Node}
use Rattle.rep_steps.specs.Orders.{IsOf}
use Rattle.rep_steps.specs.Runs.{accepted_by, acknowledged}
use Rattle.rep_steps.specs.Images.{Meaning, IsFrontAt, IsFrontOf}
use Rattle.rep_recover.specs.Meanings.{Means}
use Rattle.rep_replica.specs.Replicas.{Replica, facts_of}
use Rattle.rep_replica.specs.Holding.{Holds}
use Rattle.rep_replica.specs.Running.{Ran}
use Rattle.rep_replica.specs.Opening.{Opens}
use Rattle.rep_replica.specs.Lives.{Follows, OpensOn}

-- ---- a snapshot that comes

-- what an image means that has the snapshot of a cluster as its base, and nothing behind it
abbrev pub brought_by : List ℕ → Setting → State → Meaning
brought_by uuid p y = record { uuid = uuid; setting = p; base = y; tail = [] }

-- An image means a front of the node that has what is durable, or the snapshot, whole.
abbrev pub MeansOneOf : Node → List ℕ → State → List ℕ → Type 0
MeansOneOf n uuid y image = IsFrontAt Means n image ⊎ Means image (brought_by uuid n.facts.setting y)

-- The snapshot can come to the node: it is of its cluster and above what was delivered; or the node belongs to none.
pub record CanCome (n : Node) (uuid : List ℕ) (y : State) : Type 0 where
  pub cluster : (uuid ≡ n.facts.uuid) ⊎ IsNil n.facts.uuid
  pub later : (delivered n.facts < y.position) ⊎ IsNil n.facts.uuid

-- The node stands at the snapshot: of its cluster, with its state, and nothing behind that.
pub record StandsAt (n : Node) (uuid : List ℕ) (y : State) (m : Node) : Type 0 where
  pub uuid_is : m.facts.uuid ≡ uuid
  pub setting_is : m.facts.setting ≡ n.facts.setting
  pub base : m.base ≡ y
  pub none : m.items ≡ []
  pub durable : m.facts.durable ≡ y.position

-- the node, but for how often its device failed, and whether it is stopped
abbrev pub IsStill : Node → Node → Type 0
IsStill n m = m ≡ record n { facts = record n.facts { failures = m.facts.failures; stopped = m.facts.stopped } }

-- Some of a snapshot came, and it was given up: the replica stands for the node that it stood for, which is stopped where its device
-- failed; and at each moment of it a stop leaves what means a front of that.
pub record GaveUp {D : Type 0} (g : Ghosts D) (n : Node) (old new : Replica D) : Type 0 where
  pub node : Node
  pub still : IsStill n node
  pub holds : Holds g node new
  pub leaves : LeavesOnly (g.history old.engine.disk) (g.history new.engine.disk) (IsFrontAt Means n)

-- A snapshot came and took the base's place; and at each moment of it a stop leaves what means a front of the node, or the snapshot.
pub record Brought {D : Type 0} (g : Ghosts D) (n : Node) (uuid : List ℕ) (y : State) (old new : Replica D) : Type 0 where
  pub can : CanCome n uuid y
  pub node : Node
  pub stands : StandsAt n uuid y node
  pub holds : Holds g node new
  pub leaves : LeavesOnly (g.history old.engine.disk) (g.history new.engine.disk) (MeansOneOf n uuid y)

-- The device failed while a snapshot took the base's place: no node is promised, and each stop leaves either.
pub record Broke {D : Type 0} (g : Ghosts D) (n : Node) (uuid : List ℕ) (y : State) (old new : Replica D) : Type 0 where
  pub can : CanCome n uuid y
  pub leaves : LeavesOnly (g.history old.engine.disk) (g.history new.engine.disk) (MeansOneOf n uuid y)

-- ---- what happens in a life

-- A part of a life, and the replica behind it: it ran these events, and answered so; some of a snapshot came, and was given up; a
-- snapshot of this cluster, with this state, came and took the base's place; or the device failed while it did.
pub data Episode (D : Type 0) : Type 0 where
  Runs : (events : List Event) (answers : List Answer) (to : Replica D) → Episode D
  GivesUp : (to : Replica D) → Episode D
  Brings : (uuid : List ℕ) (y : State) (to : Replica D) → Episode D
  Breaks : (uuid : List ℕ) (y : State) (to : Replica D) → Episode D

-- Parts of a life one after another, from one replica to another. Where the device failed while a snapshot took the base's place, it is
-- the last: the replica then refuses all that is asked of it, and nothing changes.
abbrev pub AreEpisodes : {D : Type 0} → Ghosts D → Replica D → List (Episode D) → Replica D → Type 0
AreEpisodes g from [] last = from ≡ last
AreEpisodes g from (Runs events answers to ∷ es) last = Ran g from to events answers × AreEpisodes g to es last
AreEpisodes g from (GivesUp to ∷ es) last = ((n : Node) → Holds g n from → GaveUp g n from to) × AreEpisodes g to es last
AreEpisodes g from (Brings uuid y to ∷ es) last = ((n : Node) → Holds g n from → Brought g n uuid y from to) × AreEpisodes g to es last
AreEpisodes g from (Breaks uuid y to ∷ es) last = ((n : Node) → Holds g n from → Broke g n uuid y from to) × (es ≡ []) × (to ≡ last)

-- no device failed while a snapshot took the base's place
abbrev pub AreWhole : {D : Type 0} → List (Episode D) → Type 0
AreWhole [] = Unit {0}
AreWhole (Runs events answers to ∷ es) = AreWhole es
AreWhole (GivesUp to ∷ es) = AreWhole es
AreWhole (Brings uuid y to ∷ es) = AreWhole es
AreWhole (Breaks uuid y to ∷ es) = ⊥

-- A life: what was asked of the device before the opening; the replica that was opened; what happened until the last call returned, and
-- the replica then; what it was doing when it was stopped, that is what happens in the calls that had not returned, or that failed
-- while a snapshot took the base's place, to the end of them, and the replica there; and what the stop left.
pub record Life (D : Type 0) : Type 0 where
  pub old : History
  pub start : Replica D
  pub past : List (Episode D)
  pub mid : Replica D
  pub begun : List (Episode D)
  pub last : Replica D
  pub left : List ℕ

-- A life on this image: the replica was opened on it, and the parts of the life followed; and the stop came at a moment behind the
-- last answer, before, within or behind what had begun.
pub record IsLife {D : Type 0} (g : Ghosts D) (image : List ℕ) (life : Life D) : Type 0 where
  pub on : seen life.old ≡ image
  pub opens : Opens g life.old life.start
  pub whole : AreWhole life.past
  pub went : AreEpisodes g life.start life.past life.mid
  pub went_on : AreEpisodes g life.mid life.begun life.last
  pub stop : ImageSince (g.history life.last.engine.disk) (moment (g.history life.mid.engine.disk)) life.left

-- Lives one after another, each on what the stop before it left.
abbrev pub Lives : {D : Type 0} → Ghosts D → List ℕ → List (Life D) → Type 0
Lives g image [] = Unit {0}
Lives g image (life ∷ lives) = IsLife g image life × Lives g life.left lives

-- ---- what it was fed

-- The snapshot is one of the order: of its cluster, and its state is the one behind so many of the order's items.
pub record IsSnapshotOf (uuid : List ℕ) (p : Setting) (O : Order) (of : List ℕ) (y : State) : Type 0 where
  pub cluster : of ≡ uuid
  pub within : y.position ≤ length O
  pub state_is : y ≡ state p (take y.position O)

-- how many of the order's items there are behind these parts of a life, where there were k before them
abbrev pub reached_by : {D : Type 0} → ℕ → List (Episode D) → ℕ
reached_by k [] = k
reached_by k (Runs events answers to ∷ es) = reached_by (k + length (accepted_by events answers)) es
reached_by k (GivesUp to ∷ es) = reached_by k es
reached_by k (Brings uuid y to ∷ es) = reached_by y.position es
reached_by k (Breaks uuid y to ∷ es) = y.position

-- What was delivered are the order's items from where it stood, and what came are snapshots of the order.
abbrev pub FedFrom : {D : Type 0} → List ℕ → Setting → Order → ℕ → List (Episode D) → Type 0
FedFrom uuid p O k [] = Unit {0}
FedFrom uuid p O k (Runs events answers to ∷ es) = ((rest : Order) × ((take k O ++ accepted_by events answers) ++ rest ≡ O)) × FedFrom uuid p O (k + length (accepted_by events answers)) es
FedFrom uuid p O k (GivesUp to ∷ es) = FedFrom uuid p O k es
FedFrom uuid p O k (Brings of y to ∷ es) = IsSnapshotOf uuid p O of y × FedFrom uuid p O y.position es
FedFrom uuid p O k (Breaks of y to ∷ es) = IsSnapshotOf uuid p O of y

abbrev pub AreFed : {D : Type 0} → Ghosts D → List ℕ → Setting → Order → List (Life D) → Type 0
AreFed g uuid p O [] = Unit {0}
AreFed g uuid p O (life ∷ lives) = FedFrom uuid p O (facts_of g life.start).durable (life.past ++ life.begun) × AreFed g uuid p O lives

-- ---- what comes of it

-- It is of this cluster; or it is of none, as it was before, and without an item.
abbrev pub IsOfCluster : List ℕ → List ℕ → List ℕ → ℕ → Type 0
IsOfCluster before uuid own k = (own ≡ uuid) ⊎ (IsNil before × (own ≡ before) × (k ≡ 0))

-- An image stands for a front of the order, of at most h of its items and with the first d; or, where it was of no cluster before, it
-- is of none, and of no item.
abbrev pub IsFrontIn : List ℕ → List ℕ → Setting → Order → ℕ → ℕ → List ℕ → Type 0
IsFrontIn before uuid p O h d image = IsFrontOf Means uuid p (take h O) d image ⊎ (IsNil before × IsFrontOf Means before p [] d image)

-- The replica stands for the node m, which is of a front of k items of the order, and no less is durable than at the node n before.
pub record IsAtFront {D : Type 0} (g : Ghosts D) (uuid : List ℕ) (p : Setting) (O : Order) (n : Node) (k : ℕ) (m : Node) (r : Replica D) : Type 0 where
  pub cluster : IsOfCluster n.facts.uuid uuid m.facts.uuid k
  pub setting_is : m.facts.setting ≡ p
  pub within : k ≤ length O
  pub of : IsOf (take k O) m
  pub least : n.facts.durable ≤ m.facts.durable
  pub holds : Holds g m r

-- Each part of a life goes on from a node of a front of the order to one of a longer front with no less durable: a run as a node that
-- never stopped; a snapshot to where it is.
abbrev pub EpisodesFollow : {D : Type 0} → Ghosts D → List ℕ → Setting → Order → ℕ → Node → List (Episode D) → Type 0
EpisodesFollow g uuid p O k n [] = Unit {0}
EpisodesFollow g uuid p O k n (Runs events answers to ∷ es) =
    (m : Node) × Follows O (take k O) n events answers m × IsAtFront g uuid p O n (k + length (accepted_by events answers)) m to
    × EpisodesFollow g uuid p O (k + length (accepted_by events answers)) m es
EpisodesFollow g uuid p O k n (GivesUp to ∷ es) = (m : Node) × IsStill n m × IsAtFront g uuid p O n k m to × EpisodesFollow g uuid p O k m es
EpisodesFollow g uuid p O k n (Brings of y to ∷ es) =
    (m : Node) × (k ≤ y.position) × StandsAt n of y m × IsAtFront g uuid p O n y.position m to × EpisodesFollow g uuid p O y.position m es
EpisodesFollow g uuid p O k n (Breaks of y to ∷ es) = k ≤ y.position

-- the replies that were given
abbrev pub replies_of : {D : Type 0} → List (Episode D) → List Reply
replies_of [] = []
replies_of (Runs events answers to ∷ es) = acknowledged answers ++ replies_of es
replies_of (GivesUp to ∷ es) = replies_of es
replies_of (Brings uuid y to ∷ es) = replies_of es
replies_of (Breaks uuid y to ∷ es) = replies_of es

-- A life follows the order, of which d items were durable before it and h delivered or brought, and these replies given: opened on a
-- front of the order, or still of no cluster, it goes on as a node that never stopped; and what the stop left stands for a front of
-- what was delivered or brought that has all that was durable behind the last answer, or it is still of no cluster.
pub record LifeFollows {D : Type 0} (g : Ghosts D) (before uuid : List ℕ) (p : Setting) (O : Order) (d h : ℕ) (given : List Reply) (life : Life D) : Type 0 where
  pub own : List ℕ
  pub position : ℕ
  pub cluster : IsOfCluster before uuid own position
  pub start : Node
  pub opens : OpensOn g own p O d h given life.start position start
  pub follow : EpisodesFollow g uuid p O position start (life.past ++ life.begun)
  pub front : IsFrontIn (facts_of g life.mid).uuid uuid p O (reached_by position (life.past ++ life.begun)) (facts_of g life.mid).durable life.left

-- Each life begins on a front that has what was durable behind the last answer of the one before it, and no more than was delivered or
-- brought in that; and so each item to whose origin any of them replied.
abbrev pub LivesFollow : {D : Type 0} → Ghosts D → List ℕ → List ℕ → Setting → Order → ℕ → ℕ → List Reply → List (Life D) → Type 0
LivesFollow g before uuid p O d h given [] = Unit {0}
LivesFollow g before uuid p O d h given (life ∷ lives) =
    LifeFollows g before uuid p O d h given life
    × LivesFollow g (facts_of g life.mid).uuid uuid p O (facts_of g life.mid).durable (reached_by (facts_of g life.start).durable (life.past ++ life.begun)) (given ++ replies_of life.past) lives

-- Lives that are fed an order and snapshots of it follow it, from an image on that stands for a front of the h items of it that were
-- delivered, with d of them, or that is of no cluster yet.
abbrev pub LivesWithSnapshotsFollowTheOrder : {D : Type 0} → Ghosts D → Type 0
LivesWithSnapshotsFollowTheOrder {D} g =
    (before uuid : List ℕ) (p : Setting) (O : Order) (d h : ℕ) (image : List ℕ) (lives : List (Life D)) → IsFrontIn before uuid p O h d image → Lives g image lives → AreFed g uuid p O lives
    → LivesFollow g before uuid p O d h [] lives
