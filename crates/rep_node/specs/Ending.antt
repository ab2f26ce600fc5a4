-- How a node begins with a replica, and ends in one.
use Rattle.std.specs.Prelude.{◌≡◌, ℕ, ◌+◌, ◌≤◌, ◌++◌, false, None, All, IsFalse, List, length}
use Rattle.uuid.specs.Parts.{is_nil_bytes}
use Rattle.rep_types.specs.declared.judged.Judged.{Judged}
use Rattle.rep_types.specs.Order.{Order, items_of}
use Rattle.rep_disk.specs.declared.disk.Disk.{Ghosts}
use Rattle.rep_disk.specs.History.{IsImage}
use Rattle.rep_cert.specs.Holdings.{Holdings}
use Rattle.rep_engine.specs.Engines.{Engine, durable_of}
use Rattle.rep_steps.specs.Nodes.{Node}
use Rattle.rep_steps.specs.Orders.{IsOf}
use Rattle.rep_steps.specs.Images.{IsFrontOf}
use Rattle.rep_image.specs.Meanings.{Means}
use Rattle.rep_replica.specs.Replicas.{Replica}
use Rattle.rep_replica.specs.Holding.{Holds}
use Rattle.rep_stations.specs.Taking.{StartsAs}
use Rattle.rep_stations.specs.Ending.{Ends, Begins as PartsBegin}
use Rattle.rep_snap.specs.Views.{Watching, watching}
use Rattle.rep_ordered.specs.declared.view.View.{View}
use Rattle.rep_ordered.specs.Counts.{times, once_below}
use Rattle.rep_node.specs.declared.home.Home.{Home}
use Rattle.rep_node.specs.declared.origin.Origin.{Origin}
use Rattle.rep_node.specs.Homes.{Start, Begins, values_of}

module _ {D : Type 0} (g : Ghosts D) where
  -- What a replica was taken apart into that has nothing left to do, runs, and belongs to a cluster.
  pub record IsTakenApart (r : Replica D) (certifier : Holdings) (backlog : List Judged) (engine : Engine D) : Type 0 where
    pub same_certifier : certifier ≡ r.certifier
    pub same_backlog : backlog ≡ r.backlog
    pub same_engine : engine ≡ r.engine
    pub parts : PartsBegin g r
    pub works : r.engine.halted ≡ None
    pub defined : IsFalse (is_nil_bytes r.engine.checkpoint.base.uuid)

  -- The first seat of a node that was started from a replica, and its readers: what it was started with is the replica's certifier and
  -- engine, it stands for each node that the replica stood for, and each reader was told the empty list.
  pub record StartsFrom (r : Replica D) (v : View (Home D) Judged) (watch : List (Watching Origin)) : Type 0 where
    pub start : Start D
    pub first : v.first ≡ values_of start
    pub begins : Begins g start
    pub certifier : start.certifier ≡ r.certifier
    pub engine : start.desk.engine ≡ r.engine
    pub stands : (n : Node) → Holds g n r → StartsAs g r.engine r.certifier.current n
    pub readers : All (λ (reader : Watching Origin). reader ≡ watching start.desk.publisher) watch

  -- They are what some such replica was taken apart into,
  abbrev pub AreParts : Holdings → List Judged → Engine D → Type 0
  AreParts certifier backlog engine = (r : Replica D) × IsTakenApart r certifier backlog engine

  -- and of each such replica a node was started.
  abbrev pub StartsFromParts : Holdings → List Judged → Engine D → View (Home D) Judged → List (Watching Origin) → Type 0
  StartsFromParts certifier backlog engine v watch = (r : Replica D) → IsTakenApart r certifier backlog engine → StartsFrom r v watch

  -- The replica that a node is closed with, by a seat to which all others were joined: it ends the history that the seat saw, and has all
  -- durable that the seat knows to be so. The seat's numbers are those from the first on, each once, and without a halt each has its
  -- entry, and the device has not failed.
  pub record EndsAs (v : View (Home D) Judged) (r : Replica D) : Type 0 where
    pub start : Start D
    pub first : v.first ≡ values_of start
    pub one : (s : Start D) → v.first ≡ values_of s → s ≡ start
    pub taken : List Judged
    pub waits : List Judged
    pub ends : Ends g start.desk.engine start.certifier.current v.seen taken waits r
    pub durable : v.durable ≤ durable_of r.engine.log
    pub numbers : (x : ℕ) → times x v.own + once_below x v.start ≡ once_below x (v.start + length v.own)
    pub drawn : length v.seen ≤ length v.own
    pub whole : v.halted ≡ 0 → length v.seen ≡ length v.own
    pub works : v.halted ≡ 0 → r.engine.halted ≡ None
    -- Where the first parts stood for a node of an order: unless it was stopped, the replica stands for a node of that order with the
    -- history's items at its end; and stopped or not, each image that the device leaves stands for a front of that order with the items that
    -- the engine has taken, with all that is durable.
    pub stands : (L : Order) (n : Node) → IsOf L n → StartsAs g start.desk.engine start.certifier.current n → r.stopped ≡ false → (m : Node) × IsOf (L ++ items_of v.seen) m × Holds g m r
    pub images : (L : Order) (n : Node) → IsOf L n → StartsAs g start.desk.engine start.certifier.current n → (image : List ℕ) → IsImage (g.history r.engine.disk) image
        → IsFrontOf Means start.desk.engine.checkpoint.base.uuid start.certifier.current.setting (L ++ items_of taken) (durable_of r.engine.log) image
