-- A snapshot that is installed beside a replica: what stands, and the node that comes of it.
use Rattle.std.specs.Prelude.{◌≡◌, ℕ, ◌≤◌, true, false, List, [], Result, IfErr, OnOk, OnErr, refl}
use Rattle.std.specs.Coded.{Coded, codes, code_by, coded×}
use Rattle.rep_types.specs.declared.refusal.Refusal.{Refusal}
use Rattle.rep_types.specs.declared.refusal.Refusal.TheVariants.{DiskFault}
use Rattle.rep_types.specs.Order.{State}
use Rattle.rep_disk.specs.declared.disk.Disk.{Ghosts}
use Rattle.rep_disk.specs.History.{IsImage}
use Rattle.rep_disk.specs.Moments.{LeavesOnly}
use Rattle.rep_layout.specs.declared.super_body.SuperBody.{SuperBody}
use Rattle.rep_cert.specs.Holdings.{Holdings, IsAskable, window_of, made_at}
use Rattle.rep_steps.specs.Standings.{Standing, Off}
use Rattle.rep_steps.specs.Nodes.{Node, window_at}
use Rattle.rep_steps.specs.Images.{AreJudgedFrom, IsFrontAt}
use Rattle.rep_recover.specs.Meanings.{Means}
use Rattle.rep_recover.specs.Coming.{Coming}
use Rattle.rep_layout.specs.Windows.{IsWindowAt}
use Rattle.rep_recover.specs.Engines.{Engine, engine_code}
use Rattle.rep_recover.specs.Installing.{HoldsBoth as EngineHoldsBoth, HoldsEither, MeansEither}
use Rattle.rep_replica.specs.Replicas.{Replica, IsReplica, facts_of}
use Rattle.rep_replica.specs.Settling.{is_quiet}
use Rattle.rep_replica.specs.Holding.{Holds}

-- A replica for which nothing waits, the snapshot that is on its way beside its base, and what the certifier holds that goes on from
-- there.
pub record Bringing (D : Type 0) : Type 0 where
  pub engine : Engine D
  pub coming : Coming
  pub before : Holdings
  pub after : Holdings

-- as numbers
pub bringing_code : {D : Type 0} → Coded D → Coded (Bringing D)
bringing_code {D} code =
    code_by (Engine D × (Coming × (Holdings × Holdings))) (coded× (engine_code code) (Prim.hlevel codes))
    (λ b. (b.engine, (b.coming, (b.before, b.after))))
    (λ c. record { engine = c.0; coming = c.1.0; before = c.1.1.0; after = c.1.1.1 }) (λ _. refl)

-- the replica as it is if the snapshot is given up
abbrev pub given_up : {D : Type 0} → Bringing D → Replica D
given_up b = record { engine = b.engine; backlog = []; certifier = b.before; stopped = false }

-- What is so of it whatever the device does: without the snapshot it is a replica; and the certifier that goes on is made at the
-- snapshot's position, with the window that it brings, which a disk can hold.
pub record IsBringing (s : Standing) (i : Coming) (before after : Holdings) : Type 0 where
  pub replica : IsReplica s [] before.current false
  pub window : IsWindowAt s.setting i.next.super.position i.next.window
  pub made : after.current ≡ made_at s.setting i.next.super.position i.next.window

-- The replica stands for the node, on an honest device, and beside its base the snapshot is as far as it says, and brings y. Each image
-- means a front of the node that has what is durable.
pub record HoldsBoth {D : Type 0} (g : Ghosts D) (n : Node) (y : State) (b : Bringing D) : Type 0 where
  pub engine : EngineHoldsBoth g n y b.engine b.coming
  pub judged : AreJudgedFrom n.facts.setting n.base n.items
  pub windows : (k : ℕ) → n.base.position ≤ k → IsAskable b.before.current k → window_of b.before.current k ≡ window_at n k

-- The node stands at the snapshot that this superblock names, which is y: of its cluster, with its rows, its position and its window,
-- nothing behind it, and nothing to do.
pub record IsInstalled (b : SuperBody) (y : State) (m : Node) : Type 0 where
  pub uuid : m.facts.uuid ≡ b.uuid
  pub setting : m.facts.setting ≡ b.params
  pub base : m.base ≡ y
  pub none : m.items ≡ []
  pub position : y.position ≡ b.position
  pub durable : m.facts.durable ≡ b.position
  pub ahead : m.facts.ahead ≡ []
  pub off : m.facts.stage ≡ Off
  pub running : m.facts.stopped ≡ false

-- What a stop leaves on an honest device means a front of the node.
pub record LeavesFronts {D : Type 0} (g : Ghosts D) (n : Node) (r : Replica D) : Type 0 where
  pub is_honest : g.honest r.engine.disk
  pub images : (image : List ℕ) → IsImage (g.history r.engine.disk) image → IsFrontAt Means n image

-- What comes of an installation on an honest device: the node that stands at the snapshot; or, where the device failed, a replica that
-- refuses everything, each image of whose device means what it was, or the snapshot, whole. And so does each at every moment of it.
pub record Installs {D : Type 0} (g : Ghosts D) (n : Node) (y : State) (old : Bringing D) (new : Replica D) (result : Result (Unit {0}) Refusal) : Type 0 where
  pub holds : OnOk result ((m : Node) × IsInstalled old.coming.next.super y m × Holds g m new)
  pub either : OnErr result (HoldsEither g n old.coming.next.super y new.engine)
  pub leaves : LeavesOnly (g.history old.engine.disk) (g.history new.engine.disk) (MeansEither n old.coming.next.super y)

-- And on any device: where it succeeds the facts are those of a quiet node at the snapshot; where the device failed it is stopped.
pub record IsAt (b : SuperBody) (s : Standing) : Type 0 where
  pub uuid : s.uuid ≡ b.uuid
  pub setting : s.setting ≡ b.params
  pub base : s.base ≡ b.position
  pub durable : s.durable ≡ b.position
  pub quiet : is_quiet s ≡ true
  pub running : s.stopped ≡ false

pub record Lands {D : Type 0} (g : Ghosts D) (old : Bringing D) (new : Replica D) (result : Result (Unit {0}) Refusal) : Type 0 where
  pub done : OnOk result (IsAt old.coming.next.super (facts_of g new))
  pub fault : IfErr result (λ e. (e ≡ DiskFault) × ((facts_of g new).stopped ≡ true))
