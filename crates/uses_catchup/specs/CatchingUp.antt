-- How a node is brought up to date by another one.
use Rattle.std.specs.Prelude.{◌≡◌, ◌⊎◌, ℕ, ◌≤◌, true, false, [], take}
use Rattle.rep_types.specs.Order.{Order}
use Rattle.rep_disk.specs.declared.disk.Disk.{Ghosts}
use Rattle.rep_layout.specs.Supers.{IsNil}
use Rattle.rep_steps.specs.Nodes.{Node, IsNode}
use Rattle.rep_steps.specs.Orders.{IsOf}
use Rattle.rep_replica.specs.Replicas.{Replica, facts_of}
use Rattle.rep_replica.specs.Holding.{Holds}
use Rattle.rep_replica.specs.Settling.{is_quiet}
use Rattle.rep_transfer.specs.declared.have.Have.{Have}
use Rattle.rep_transfer.specs.Shapes.{shape_of}
use Rattle.rep_transfer.specs.Transfers.{Transfer}
use Rattle.rep_catchup.specs.Donating.{IsDonated}
use Rattle.rep_catchup.specs.Orders.{IsJoiner}

-- The donor's node n is of the order, and belongs to a cluster. The joiner's node k is of one shape with it, and all that was delivered to
-- it is durable: it belongs to the same cluster, and is of a front of what is durable at n; or it belongs to none. Neither is stopped.
pub record MayCatchUp (O : Order) (n k : Node) : Type 0 where
  pub of : IsOf O n
  pub defined : IsNil n.facts.uuid → ⊥
  pub cluster : (k.facts.uuid ≡ n.facts.uuid) ⊎ IsNil k.facts.uuid
  pub shape : shape_of k.facts.setting ≡ shape_of n.facts.setting
  pub front : (IsNil k.facts.uuid → ⊥) → IsOf (take k.facts.durable O) k
  pub behind : k.facts.durable ≤ n.facts.durable
  pub none : k.facts.ahead ≡ []
  pub donor_runs : n.facts.stopped ≡ false
  pub joiner_runs : k.facts.stopped ≡ false

-- The donor's node gave the joiner's node the transfer for what that has.
pub record IsGiven (O : Order) (n k : Node) (have : Have) (t : Transfer) : Type 0 where
  pub may : MayCatchUp O n k
  pub node : IsNode n
  pub joiner : IsJoiner (take n.facts.durable O) k have
  pub donated : IsDonated n have t

-- The joiner holds the donor's order up to what is durable there, which is the position that was answered, and all of it is durable; it is of
-- the donor's cluster, and nothing is due at it.
pub record CaughtUp {D : Type 0} (g : Ghosts D) (O : Order) (n : Node) (new : Replica D) (last : ℕ) : Type 0 where
  pub last_is : last ≡ n.facts.durable
  pub node : Node
  pub cluster : node.facts.uuid ≡ n.facts.uuid
  pub of : IsOf (take n.facts.durable O) node
  pub durable : node.facts.durable ≡ n.facts.durable
  pub none : node.facts.ahead ≡ []
  pub holds : Holds g node new
  pub quiet : is_quiet (facts_of g new) ≡ true
