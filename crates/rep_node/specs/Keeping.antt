-- What the engine and the queue are while somebody works at them, and what a keeper says.
use Rattle.std.specs.Prelude.{◌≡◌, ℕ, ◌+◌, ◌-◌, ◌*◌, ◌≤◌, [], ◌∷◌, ◌++◌, max, None, Some, List, Result, OnOk, IfErr, length, take}
use Rattle.rep_types.specs.declared.judged.Judged.{Judged}
use Rattle.rep_types.specs.declared.limits.TheConstants.{MAX_SEQNO}
use Rattle.rep_types.specs.declared.refusal.Refusal.{Refusal}
use Rattle.rep_types.specs.declared.refusal.Refusal.TheVariants.{LogFull}
use Rattle.rep_disk.specs.declared.disk.Disk.{Ghosts}
use Rattle.rep_engine.specs.Engines.{Engine, durable_of, facts_of}
use Rattle.rep_steps.specs.declared.event.Event.TheVariants.{Log}
use Rattle.rep_steps.specs.Standings.{refusal}
use Rattle.rep_snap.specs.Lists.{oldest_of, published}
use Rattle.rep_stations.specs.Taking.{HasTaken}
use Rattle.rep_ordered.specs.declared.view.View.{View}
use Rattle.rep_ordered.specs.Views.{StartsWith, hold}
use Rattle.rep_ordered.specs.Going.{Goes}
use Rattle.rep_node.specs.declared.home.Desk.{Desk}
use Rattle.rep_node.specs.declared.home.Queue.{Queue}
use Rattle.rep_node.specs.declared.home.Home.{Home}
use Rattle.rep_node.specs.declared.keeping.Kept.{Kept}
use Rattle.rep_node.specs.Publishing.{shown}
use Rattle.rep_node.specs.Homes.{Start, Begins, DeskAt, IsLegalBehind, QueueAt, position_of, values_of}
use Rattle.rep_node.specs.Seats.{SeesLegal}

-- the number that the value of the engine's station names for queue and engine
abbrev pub common_of_desk : {D : Type 0} → Desk D → ℕ
common_of_desk d = durable_of d.engine.log + length d.engine.block

-- Items wait to be written, and the log's next cell is still needed: so the engine refuses to write.
abbrev pub IsFull : {D : Type 0} → Ghosts D → Engine D → Type 0
IsFull g e = refusal (facts_of g e) Log ≡ Some LogFull

-- The seat of this view went on to the engine, from the side, at this number of its turn, and holds nothing else; this was durable there, and
-- engine and queue name this one.
pub record AtEngine {D : Type 0} (v u : View (Home D) Judged) (number floor common : ℕ) : Type 0 where
  pub goes : Goes v u
  pub own : u.own ≡ v.own
  pub joined : u.joined ≡ v.joined
  pub kept : u.given_up ≡ v.given_up
  pub sees : SeesLegal v u
  pub held : u.held ≡ hold 1 (4 * number + 2) floor ∷ []
  pub common_is : u.common ≡ common

module _ {D : Type 0} (g : Ghosts D) where
  -- At the engine: it has taken a front of a history that is legal behind what the node was started with.
  pub record AtWork (s : Start D) (items : List Judged) (d : Desk D) : Type 0 where
    pub begins : Begins g s
    pub legal : IsLegalBehind s.certifier.current items
    pub desk : DeskAt g s 0 items d

  -- The engine has taken a step: it works, but more may be durable than is published.
  pub record HasStepped (s : Start D) (items : List Judged) (d : Desk D) : Type 0 where
    pub begins : Begins g s
    pub legal : IsLegalBehind s.certifier.current items
    pub front : List Judged
    pub starts : StartsWith items front
    pub taken : HasTaken g s.desk.engine s.certifier.current front d.engine
    pub publisher : (d.publisher.book ≡ s.desk.publisher.book) × (d.publisher.basis ≡ s.desk.publisher.basis) × (d.publisher.start ≡ s.desk.publisher.start)
    pub works : d.engine.halted ≡ None
    pub waits : published d.publisher.list ++ d.waiting ≡ shown front
    pub behind : position_of s + length (published d.publisher.list) ≤ durable_of d.engine.log
    pub oldest : oldest_of d.publisher.start d.publisher.list ≤ max (position_of s) d.engine.checkpoint.base.position

  -- At both engine and queue: they name the same item as the last that the engine accepted.
  pub record AreAtWork (s : Start D) (number : ℕ) (items : List Judged) (d : Desk D) (q : Queue) : Type 0 where
    pub work : AtWork s items d
    pub queue : QueueAt s number items q
    pub common : q.accepted ≡ common_of_desk d
    pub limit : number ≤ MAX_SEQNO + 1

  -- The seat of this view is at the engine, and this desk lies there: one that works, or one to be given up (1).
  pub record AtDesk (given : ℕ) (v u : View (Home D) Judged) (d : Desk D) : Type 0 where
    pub number : ℕ
    pub floor : ℕ
    pub at : AtEngine v u number floor (common_of_desk d)
    pub low : floor ≤ durable_of d.engine.log
    pub desk : (s : Start D) → v.first ≡ values_of s → DeskAt g s given u.seen d

  -- An engine was found at the desk whose log is full.
  pub record FoundFull (s : Start D) (w : View (Home D) Judged) : Type 0 where
    pub desk : Desk D
    pub here : DeskAt g s 0 w.seen desk
    pub full : IsFull g desk.engine

  -- What a round leaves: a desk that works, also where the log is full, or one to be given up.
  pub record HasWorked {T : Type 0} (v u : View (Home D) Judged) (d : Desk D) (done : Result T Refusal) : Type 0 where
    pub works : OnOk done (AtDesk 0 v u d)
    pub full : IfErr done (λ (r : Refusal). r ≡ LogFull → AtDesk 0 v u d × IsFull g d.engine)
    pub given : AtDesk 1 v u d

-- What a keeper says: an item that is durable, which the seat has seen durable since; and readers may be told the list of all items up
-- to there, each with what it wrote, which is nothing unless it committed.
pub record IsKept {D : Type 0} (v w : View (Home D) Judged) (kept : Kept) : Type 0 where
  pub durable : kept.durable ≤ w.durable
  pub told : (s : Start D) → v.first ≡ values_of s → kept.told.book ≡ s.desk.publisher.book
  pub least : (s : Start D) → v.first ≡ values_of s → position_of s ≤ kept.durable
  pub list : (s : Start D) → v.first ≡ values_of s → published kept.told.list ≡ shown (take (kept.durable - position_of s) w.seen)
