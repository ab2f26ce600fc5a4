-- A snapshot that is installed beside the base of an engine: what stands, what every image means, and the node that comes of it.
use Rattle.std.specs.Prelude.{◌≡◌, ◌⊎◌, ℕ, ◌+◌, ◌<◌, ◌≤◌, true, List, [], length, map, None, Result, OnOk, OnErr, refl}
use Rattle.std.specs.Coded.{Coded, codes, code_by, coded×}
use Rattle.rep_types.specs.declared.judged.Judged.{Judged}
use Rattle.rep_types.specs.declared.limits.TheConstants.{MAX_SEQNO}
use Rattle.rep_types.specs.Order.{State}
use Rattle.rep_types.specs.Windows.{Window}
use Rattle.rep_forms.specs.Forms.{IsPart}
use Rattle.rep_disk.specs.declared.disk.Disk.{Ghosts}
use Rattle.rep_disk.specs.History.{stable, IsImage}
use Rattle.rep_disk.specs.Moments.{LeavesOnly}
use Rattle.rep_layout.specs.declared.super_body.SuperBody.{SuperBody}
use Rattle.rep_layout.specs.Supers.{IsNil}
use Rattle.rep_layout.specs.Windows.{IsWindowAt}
use Rattle.rep_cells.specs.States.{States}
use Rattle.rep_cells.specs.Known.{Assigns}
use Rattle.rep_versions.specs.Versions.{IsPruned}
use Rattle.rep_versions.specs.Following.{AreVersionsOf, effect_of}
use Rattle.rep_log.specs.declared.phase.Phase.TheVariants.{Resting}
use Rattle.rep_log.specs.Standing.{Standing as Log, stands_at}
use Rattle.rep_log.specs.Moves.{restarted}
use Rattle.rep_steps.specs.Standings.{Standing}
use Rattle.rep_steps.specs.Nodes.{Node, IsNode}
use Rattle.rep_steps.specs.Images.{Meaning, IsFrontAt}
use Rattle.rep_checkpoint.specs.Meanings.{Means}
use Rattle.rep_checkpoint.specs.declared.stage.Part.TheVariants.{SuperOpening}
use Rattle.rep_checkpoint.specs.declared.stage.Stage.TheVariants.{Off}
use Rattle.rep_checkpoint.specs.Standing.{Standing as Checkpoint}
use Rattle.rep_checkpoint.specs.Moves.{found_at}
use Rattle.rep_checkpoint.specs.Coming.{Coming, IsComing}
use Rattle.rep_checkpoint.specs.Arriving.{InstallsAs, installed}
use Rattle.rep_engine.specs.Engines.{Engine, engine_code, durable_of, facts_of}
use Rattle.rep_engine.specs.Holding.{Holds}

-- ---- an engine and a snapshot beside it

-- An engine, and the snapshot that is on its way beside its base.
pub record Beside (D : Type 0) : Type 0 where
  pub engine : Engine D
  pub coming : Coming

coming_code : Coded Coming
coming_code = Prim.hlevel codes

pub beside_code : {D : Type 0} → Coded D → Coded (Beside D)
beside_code code = code_by (Engine _ × Coming) (coded× (engine_code code) coming_code) (λ b. (b.engine, b.coming)) (λ c. record { engine = c.0; coming = c.1 }) (λ _. refl)

-- What a snapshot has to be, to be installed beside a base behind which so much is durable: of the base's cluster and of a later
-- position, or of any cluster where the base is of none; and with a window that a disk can hold there.
pub record CanBring (base : SuperBody) (durable : ℕ) (uuid : List ℕ) (position : ℕ) (v : Window) : Type 0 where
  pub sixteen : IsPart 16 uuid
  pub defined : IsNil uuid → ⊥
  pub cluster : (uuid ≡ base.uuid) ⊎ IsNil base.uuid
  pub later : (durable < position) ⊎ IsNil base.uuid
  pub limit : position ≤ MAX_SEQNO
  pub window : IsWindowAt base.params position v

-- What is so of a snapshot beside an engine, whatever the device does: neither checkpoint nor log are at work, and nothing waits for
-- the log; the snapshot can follow the base, from the log's next cell on, and holds all that is durable.
pub record IsBeside (c : Checkpoint) (log : Log) (block : List Judged) (i : Coming) : Type 0 where
  pub off : c.stage ≡ Off
  pub resting : log.phase ≡ Resting
  pub none : block ≡ []
  pub coming : IsComing c.base i.next
  pub start : i.next.super.start ≡ log.next
  pub later : durable_of log ≤ i.next.super.position

-- ---- on an honest device

-- While the device has not failed: what is known of its places is that the node stands there, and the snapshot beside it, which brings
-- y; the versions are those of the items behind the base; and the log knows which cells stand open.
pub record StandsBoth {D : Type 0} (g : Ghosts D) (n : Node) (y : State) (e : Engine D) (i : Coming) : Type 0 where
  pub states : States
  pub assigns : Assigns e.layout (g.history e.disk) states
  pub blocks : List (List Judged)
  pub sealed : List Judged
  pub installs : InstallsAs n (length (stable (g.history e.disk))) e.checkpoint i y e.log blocks sealed states
  pub versions : AreVersionsOf n.base.position (map effect_of n.items) e.kept
  pub gates : (j : ℕ) → n.gates j ≡ stands_at e.log j

-- what an image means that has the snapshot as its base, and nothing behind it
abbrev pub snapshot_of : SuperBody → State → Meaning
snapshot_of b y = record { uuid = b.uuid; setting = b.params; base = y; tail = [] }

-- An image means a front of the node that has what is durable, or the snapshot that this superblock names, whole.
abbrev pub MeansEither : Node → SuperBody → State → List ℕ → Type 0
MeansEither n b y image = IsFrontAt Means n image ⊎ Means image (snapshot_of b y)

-- The engine stands for the node, on an honest device, and beside its base the snapshot is as far as it says, and brings y. Each image
-- of the device means a front of the node that has what is durable, or, while the snapshot's superblock opens, the snapshot.
pub record HoldsBoth {D : Type 0} (g : Ghosts D) (n : Node) (y : State) (e : Engine D) (i : Coming) : Type 0 where
  pub is_honest : g.honest e.disk
  pub facts : n.facts ≡ facts_of g e
  pub node : IsNode n
  pub runs : e.halted ≡ None → StandsBoth g n y e i
  pub images : (image : List ℕ) → IsImage (g.history e.disk) image → IsFrontAt Means n image ⊎ ((i.part ≡ SuperOpening) × Means image (snapshot_of i.next.super y))

-- What is left where the device failed while the snapshot took the base's place: an image means either, whole.
pub record HoldsEither {D : Type 0} (g : Ghosts D) (n : Node) (b : SuperBody) (y : State) (e : Engine D) : Type 0 where
  pub is_honest : g.honest e.disk
  pub images : (image : List ℕ) → IsImage (g.history e.disk) image → MeansEither n b y image

-- the node where the device failed, at this count of its failures
abbrev pub halted_at : ℕ → Standing → Standing
halted_at failures s = record s { failures = failures; stopped = true }

abbrev pub halted_node : ℕ → Node → Node
halted_node failures n = record n { facts = halted_at failures n.facts }

-- A step of an installation that makes one snapshot of another: where it succeeds, both stand as it says; where it fails, each image
-- means either; and so it does at each moment of it.
pub record Goes {D T E : Type 0} (g : Ghosts D) (n : Node) (y : State) (old new : Engine D) (i k : Coming) (result : Result T E) : Type 0 where
  pub holds : OnOk result (HoldsBoth g n y new k)
  pub either : OnErr result (HoldsEither g n i.next.super y new)
  pub leaves : LeavesOnly (g.history old.disk) (g.history new.disk) (MeansEither n i.next.super y)

-- ---- where it takes the base's place

-- The snapshot's base is the engine's, on any device: the superblock before it is to be retired, the log is empty behind the
-- snapshot's position, and the versions up to there are gone.
pub record IsTaken {D : Type 0} (i : Coming) (old new : Engine D) : Type 0 where
  pub rest : new ≡ record old { disk = new.disk; checkpoint = found_at i.next.super true; log = restarted (i.next.super.position + 1) old.log; kept = new.kept }
  pub pruned : IsPruned i.next.super.position old.kept new.kept

-- The snapshot takes the base's place: where it succeeds, the engine stands for the node that the snapshot makes; where it fails, each
-- image means either; and so it does at each moment of it.
pub record TakesPlace {D T E : Type 0} (g : Ghosts D) (n : Node) (y : State) (i : Coming) (old new : Engine D) (result : Result T E) : Type 0 where
  pub holds : OnOk result (Holds g (installed n i y) new)
  pub either : OnErr result (HoldsEither g n i.next.super y new)
  pub leaves : LeavesOnly (g.history old.disk) (g.history new.disk) (MeansEither n i.next.super y)
