-- A snapshot that is brought to a replica: what a stop leaves meanwhile, and how the node goes on that comes of it.
use Rattle.std.specs.Prelude.{◌≡◌, ◌⊎◌, ℕ, ◌+◌, ◌<◌, true, List, [], ◌∷◌, None, Result, OnOk, OnErr}
use Rattle.rep_types.specs.declared.key.Key.{Key}
use Rattle.rep_types.specs.declared.limits.TheConstants.{MAX_SEQNO}
use Rattle.rep_types.specs.declared.refusal.Refusal.{Refusal}
use Rattle.rep_types.specs.declared.item.Item.{Item}
use Rattle.rep_types.specs.Order.{State, judge}
use Rattle.rep_disk.specs.declared.disk.Disk.{Ghosts}
use Rattle.rep_disk.specs.Moments.{LeavesOnly}
use Rattle.rep_layout.specs.Supers.{IsNil}
use Rattle.rep_layout.specs.declared.super_body.SuperBody.{SuperBody}
use Rattle.rep_pages.specs.Rows.{Rows}
use Rattle.rep_steps.specs.declared.event.Event.TheVariants.{Read}
use Rattle.rep_steps.specs.Events.{delivery}
use Rattle.rep_steps.specs.Standings.{Off, refusal}
use Rattle.rep_steps.specs.Nodes.{Node, window_at, verdict_for, row_on}
use Rattle.rep_steps.specs.Images.{IsFrontAt}
use Rattle.rep_image.specs.Meanings.{Means}
use Rattle.rep_checkpoint.specs.Coming.{with_page}
use Rattle.rep_replica.specs.Replicas.{Replica, facts_of}
use Rattle.rep_replica.specs.Holding.{Holds}
use Rattle.rep_replica.specs.Installing.{Bringing, HoldsBoth, IsInstalled}

-- the state with the rows of these pages
abbrev pub with_pages : List ℕ → List (ℕ × Rows) → State → State
with_pages schema [] y = y
with_pages schema (p ∷ pages) y = with_pages schema pages (with_page schema p.0 p.1 y)

-- Pages came beside the replica: of what stood there nothing changed, and a stop at each moment leaves the node. While the device has
-- not failed it stands for the node still, with a snapshot beside it.
pub record PutsAll {D : Type 0} (g : Ghosts D) (pages : List (ℕ × Rows)) (old new : Bringing D) (result : Result (Unit {0}) Refusal) : Type 0 where
  pub uuid : new.coming.next.super.uuid ≡ old.coming.next.super.uuid
  pub position : new.coming.next.super.position ≡ old.coming.next.super.position
  pub params : new.engine.checkpoint.base.params ≡ old.engine.checkpoint.base.params
  pub shape : new.coming.next.super.params ≡ old.coming.next.super.params
  pub all : (n : Node) (y : State) → HoldsBoth g n y old → OnOk result (HoldsBoth g n (with_pages old.engine.checkpoint.base.params.rows pages y) new)
  pub some : (n : Node) (y : State) → HoldsBoth g n y old → new.engine.halted ≡ None → (z : State) × HoldsBoth g n z new
  pub leaves : (n : Node) (y : State) → HoldsBoth g n y old → LeavesOnly (g.history old.engine.disk) (g.history new.engine.disk) (IsFrontAt Means n)

-- An image means a front of the node that has what is durable, or the snapshot, whole, and nothing behind it.
abbrev pub MeansOldOrNew : Node → List ℕ → State → List ℕ → Type 0
MeansOldOrNew n uuid y image = IsFrontAt Means n image ⊎ Means image (record { uuid = uuid; setting = n.facts.setting; base = y; tail = [] })

-- The snapshot was brought, and the replica stands at it; or it was refused, and the replica is stopped, or stands for the node as before.
-- Whatever is refused, and at each moment, an image means what the node was, or the snapshot.
pub record Brings {D : Type 0} (g : Ghosts D) (n : Node) (uuid : List ℕ) (y : State) (old new : Replica D) (result : Result (Unit {0}) Refusal) : Type 0 where
  pub done : OnOk result ((b : SuperBody) × (b.uuid ≡ uuid) × (m : Node) × IsInstalled b y m × Holds g m new)
  pub refused : OnErr result (((facts_of g new).stopped ≡ true) ⊎ Holds g n new)
  pub leaves : LeavesOnly (g.history old.engine.disk) (g.history new.engine.disk) (MeansOldOrNew n uuid y)

-- A node that stands at a snapshot has its rows and its window, takes the next item with the verdict that the snapshot's window gives, and
-- can begin a checkpoint once something is durable above it.
pub record GoesOn (y : State) (m : Node) : Type 0 where
  pub rows : (key : Key) → row_on m (Read key y.position) ≡ y.content key
  pub window : window_at m m.facts.durable ≡ y.kept
  pub next : (IsNil m.facts.uuid → ⊥) → y.position < MAX_SEQNO → (i : Item) → refusal m.facts (delivery (y.position + 1) i) ≡ None
  pub verdict : (i : Item) → verdict_for m i ≡ judge m.facts.setting y.position y.kept i
  pub free : m.facts.stage ≡ Off

abbrev pub InstalledNodesGoOn : Type 0
InstalledNodesGoOn = (b : SuperBody) (y : State) (m : Node) → IsInstalled b y m → GoesOn y m
