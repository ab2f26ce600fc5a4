-- What a replica keeps that was stopped.
use Rattle.std.proofs.Common.{◌≡◌, ℕ, ◌+◌, ◌-◌, List, length, length-drop, ap, ◌∙◌, arith}
use Rattle.rep_types.specs.Order.{Order}
use Rattle.rep_disk.specs.declared.disk.Disk.{Ghosts}
use Rattle.rep_disk.specs.History.{IsImage}
use Rattle.rep_steps.specs.Standings.{Standing}
use Rattle.rep_steps.specs.Nodes.{Node, IsNode}
use Rattle.rep_steps.specs.Orders.{IsOf, NodesHoldTheOrder}
use Rattle.rep_steps.specs.Images.{IsFrontAt, IsFrontOf, FrontsStandForTheOrder}
use Rattle.rep_recover.specs.Meanings.{Means}
use Rattle.rep_recover.specs.Holding.{Holds as EngineHolds}
use Rattle.rep_replica.specs.Replicas.{Replica}
use Rattle.rep_replica.specs.Holding.{Holds}
use Rattle.rep_replica.specs.Stopping.{HoldsStopped, StoppedReplicasHold}
use Rattle.rep_replica.proofs.Widening.{whole_front}

-- what means a front of a node of an order stands for a front of that order
pub front_of : NodesHoldTheOrder → FrontsStandForTheOrder → (L : Order) (n : Node) (image : List ℕ) → IsNode n → IsOf L n → IsFrontAt Means n image → IsFrontOf Means n.facts.uuid n.facts.setting L n.facts.durable image
front_of hold fronts L n image node o f =
    let count = (hold L n node o).count in
    let rest = ap length node.ahead ∙ length-drop (n.facts.durable - n.facts.base) n.items in
    let whole : n.base.position + length n.items ≡ length L = omega (arith, count, rest, node.enough, node.position, node.facts.based) in
    record {
      meaning = f.meaning;
      reads = f.reads;
      end = f.end;
      least = f.least;
      most = omega (arith, f.front.within, whole);
      stands = fronts L n f.end f.meaning node o f.front;
    }

module _ {D : Type 0} (g : Ghosts D) where
  of_node : (n : Node) (r : Replica D) → Holds g n r → HoldsStopped g n r
  of_node n r h = record {
    is_honest = h.engine.is_honest;
    node = h.node;
    uuid = ap (λ (s : Standing). s.uuid) h.facts;
    setting = ap (λ (s : Standing). s.setting) h.facts;
    durable = ap (λ (s : Standing). s.durable) h.facts;
    images = λ image is. whole_front n r.engine.block h.taken image (h.engine.images image is);
  }

  of_engine : (n : Node) (r : Replica D) → EngineHolds g n r.engine → HoldsStopped g n r
  of_engine n r h = record {
    is_honest = h.is_honest;
    node = h.node;
    uuid = ap (λ (s : Standing). s.uuid) h.facts;
    setting = ap (λ (s : Standing). s.setting) h.facts;
    durable = ap (λ (s : Standing). s.durable) h.facts;
    images = h.images;
  }

  module _ (hold : NodesHoldTheOrder) (fronts : FrontsStandForTheOrder) where
    leaves : (L : Order) (n : Node) (r : Replica D) → HoldsStopped g n r → IsOf L n → (image : List ℕ) → IsImage (g.history r.engine.disk) image → IsFrontOf Means n.facts.uuid n.facts.setting L n.facts.durable image
    leaves L n r h o image is = front_of hold fronts L n image h.node o (h.images image is)

    pub stopped_hold : StoppedReplicasHold g
    stopped_hold = record { of_node = of_node; of_engine = of_engine; leaves = leaves }
