-- What lies at home in the three stations of a node. It speaks of the values that the node was started with.
use Rattle.std.specs.Prelude.{◌≡◌, ℕ, ◌+◌, ◌≤◌, max, IsFalse, None, List, [], ◌∷◌, ◌++◌, length}
use Rattle.uuid.specs.Parts.{is_nil_bytes}
use Rattle.rep_types.specs.declared.judged.Judged.{Judged}
use Rattle.rep_disk.specs.declared.disk.Disk.{Ghosts}
use Rattle.rep_cert.specs.Holdings.{Holding, Holdings}
use Rattle.rep_engine.specs.Engines.{durable_of}
use Rattle.rep_engine.specs.Checking.{HoldsWindows}
use Rattle.rep_replica.specs.Replicas.{ArePlaced}
use Rattle.rep_stations.specs.Judging.{Legal, HasJudged}
use Rattle.rep_stations.specs.Taking.{HasTaken}
use Rattle.rep_stations.specs.Waiting.{Waits}
use Rattle.rep_snap.specs.Lists.{oldest_of, published}
use Rattle.rep_ordered.specs.Views.{StartsWith}
use Rattle.rep_node.specs.declared.home.Desk.{Desk}
use Rattle.rep_node.specs.declared.home.Queue.{Queue}
use Rattle.rep_node.specs.declared.home.Home.{Home}
use Rattle.rep_node.specs.declared.home.Home.TheVariants.{Certifier as AtFirst, Desk as AtSecond, Queue as AtThird}
use Rattle.rep_node.specs.Publishing.{shown}

-- What a node was started with.
pub record Start (D : Type 0) : Type 0 where
  pub certifier : Holdings
  pub desk : Desk D
  pub queue : Queue

-- as the values of its stations
abbrev pub values_of : {D : Type 0} → Start D → List (Home D)
values_of s = AtFirst s.certifier ∷ AtSecond s.desk ∷ AtThird s.queue ∷ []

-- the seqno behind which the history begins
abbrev pub position_of : {D : Type 0} → Start D → ℕ
position_of s = s.certifier.current.delivered

-- A history that is legal behind what the node was started with, and of which each item has a place in the log.
pub record IsLegalBehind (c : Holding) (items : List Judged) : Type 0 where
  pub legal : Legal c items
  pub placed : ArePlaced items

abbrev pub IsLegal : {D : Type 0} → List (Home D) → List Judged → Type 0
IsLegal {D} first items = (s : Start D) → first ≡ values_of s → IsLegalBehind s.certifier.current items

-- the items of the history whose seqnos are below this one
pub record Below (position number : ℕ) (items front : List Judged) : Type 0 where
  pub begins : StartsWith items front
  pub long : position + 1 + length front ≡ number

-- The certifier has judged the items below the number, and is no more than 256 items ahead of what is durable.
pub record CertifierAt {D : Type 0} (s : Start D) (number : ℕ) (items : List Judged) (durable : ℕ) (h : Holding) : Type 0 where
  pub front : List Judged
  pub below : Below (position_of s) number items front
  pub room : number ≤ durable + 257
  pub judged : HasJudged s.certifier.current front h

-- Of the items below the number those wait that the engine has not accepted.
pub record QueueAt {D : Type 0} (s : Start D) (number : ℕ) (items : List Judged) (q : Queue) : Type 0 where
  pub front : List Judged
  pub below : Below (position_of s) number items front
  pub waits : Waits s.certifier.current front q.accepted q.backlog

-- Of what the engine has taken what is durable is published, and the rest waits to be; and readers find no snapshot gone above the base.
pub record IsPublished {D : Type 0} (s : Start D) (taken : List Judged) (d : Desk D) : Type 0 where
  pub shown_or_waits : published d.publisher.list ++ d.waiting ≡ shown taken
  pub durable : position_of s + length (published d.publisher.list) ≡ durable_of d.engine.log
  pub oldest : oldest_of d.publisher.start d.publisher.list ≤ max (position_of s) d.engine.checkpoint.base.position

module _ {D : Type 0} (g : Ghosts D) where
  -- The engine has taken a front of the history, and works; what is durable of it is published. One that was given up has taken such a
  -- front, and may have failed, or have published less. Given up or not, what is published is durable, and of what the engine has taken.
  pub record DeskAt (s : Start D) (given : ℕ) (items : List Judged) (d : Desk D) : Type 0 where
    pub front : List Judged
    pub begins : StartsWith items front
    pub taken : HasTaken g s.desk.engine s.certifier.current front d.engine
    pub publisher : (d.publisher.book ≡ s.desk.publisher.book) × (d.publisher.basis ≡ s.desk.publisher.basis) × (d.publisher.start ≡ s.desk.publisher.start)
    pub works : given ≡ 0 → d.engine.halted ≡ None
    pub ahead : position_of s + length (published d.publisher.list) ≤ durable_of d.engine.log
    pub fronts : StartsWith (shown front) (published d.publisher.list)
    pub shown : given ≡ 0 → IsPublished s front d

  -- Certifier and queue are never given up.
  abbrev pub AtHome : List (Home D) → ℕ → ℕ → ℕ → List Judged → ℕ → Home D → Type 0
  AtHome first station number given items durable (AtFirst c) = (station ≡ 0) × ((s : Start D) → first ≡ values_of s → CertifierAt s number items durable c.current)
  AtHome first station number given items durable (AtSecond d) = (station ≡ 1) × ((s : Start D) → first ≡ values_of s → DeskAt s given items d)
  AtHome first station number given items durable (AtThird q) = (station ≡ 2) × ((s : Start D) → first ≡ values_of s → QueueAt s number items q)

  -- What a node is started with: the parts of a quiet replica of a cluster, and a publisher that has published nothing.
  pub record Begins (s : Start D) : Type 0 where
    pub judged : HasJudged s.certifier.current [] s.certifier.current
    pub windows : HoldsWindows s.certifier.current
    pub taken : HasTaken g s.desk.engine s.certifier.current [] s.desk.engine
    pub at : position_of s ≡ durable_of s.desk.engine.log
    pub works : s.desk.engine.halted ≡ None
    pub defined : IsFalse (is_nil_bytes s.desk.engine.checkpoint.base.uuid)
    pub origin : s.desk.publisher.basis.certifier.log ≡ s.certifier ∷ []
    pub start : s.desk.publisher.start ≡ position_of s
    pub list : s.desk.publisher.list ≡ []
    pub waiting : s.desk.waiting ≡ []
    pub backlog : s.queue.backlog ≡ []
    pub accepted : s.queue.accepted ≡ position_of s

-- the durable number that a value names
abbrev pub durable_in : {D : Type 0} → Home D → ℕ
durable_in (AtFirst c) = 0
durable_in (AtSecond d) = durable_of d.engine.log
durable_in (AtThird q) = 0

-- The seqno of the last item that the engine has accepted, as engine and queue name it.
abbrev pub common_in : {D : Type 0} → Home D → ℕ
common_in (AtFirst c) = 0
common_in (AtSecond d) = durable_of d.engine.log + length d.engine.block
common_in (AtThird q) = q.accepted
