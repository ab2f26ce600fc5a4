-- What a replica keeps that was stopped, by its device or from outside.
use Rattle.std.specs.Prelude.{◌≡◌, ℕ, List}
use Rattle.rep_types.specs.Order.{Order}
use Rattle.rep_disk.specs.declared.disk.Disk.{Ghosts}
use Rattle.rep_disk.specs.History.{IsImage}
use Rattle.rep_disk.specs.Laws.{MomentsOfCalls}
use Rattle.rep_steps.specs.Nodes.{Node, IsNode}
use Rattle.rep_steps.specs.Orders.{IsOf}
use Rattle.rep_steps.specs.Images.{IsFrontAt, IsFrontOf}
use Rattle.rep_recover.specs.Meanings.{Means, ImagesMeanOneThing}
use Rattle.rep_recover.specs.Holding.{Holds as EngineHolds}
use Rattle.rep_replica.specs.Replicas.{Replica, facts_of}
use Rattle.rep_replica.specs.Holding.{Holds}

-- On an honest device each image means a front of the node that has what is durable. A replica that was stopped keeps that of the node
-- for which it stood, or for which the engine stands that it was put together around, and no more.
pub record HoldsStopped {D : Type 0} (g : Ghosts D) (n : Node) (r : Replica D) : Type 0 where
  pub is_honest : g.honest r.engine.disk
  pub node : IsNode n
  pub uuid : n.facts.uuid ≡ (facts_of g r).uuid
  pub setting : n.facts.setting ≡ (facts_of g r).setting
  pub durable : n.facts.durable ≡ (facts_of g r).durable
  pub images : (image : List ℕ) → IsImage (g.history r.engine.disk) image → IsFrontAt Means n image

-- So holds a replica that stands for a node, whether its device has failed or not; and one around an engine that stands for a node,
-- whoever stopped it and whatever its other parts are. And where the node is of an order, each image stands for a front of that
-- order with what is durable, so that it can be opened again.
pub record StoppedReplicasHold {D : Type 0} (g : Ghosts D) : Type 0 where
  pub of_node : (n : Node) (r : Replica D) → Holds g n r → HoldsStopped g n r
  pub of_engine : (n : Node) (r : Replica D) → EngineHolds g n r.engine → HoldsStopped g n r
  pub leaves : (L : Order) (n : Node) (r : Replica D) → HoldsStopped g n r → IsOf L n → (image : List ℕ) → IsImage (g.history r.engine.disk) image
      → IsFrontOf Means n.facts.uuid n.facts.setting L n.facts.durable image

-- What a stop leaves, and what is opened on that.
abbrev pub StopsLeaveWhatHolds : {D : Type 0} → Ghosts D → Type 0
StopsLeaveWhatHolds g = ImagesMeanOneThing × StoppedReplicasHold g × MomentsOfCalls
