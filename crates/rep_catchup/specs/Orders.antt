-- Catch-up, end to end.
use Rattle.std.specs.Prelude.{◌≡◌, ℕ, ◌+◌, List, [], ◌∷◌, ◌++◌, take}
use Rattle.rep_types.specs.declared.judged.Judged.{Judged}
use Rattle.rep_types.specs.Order.{Order}
use Rattle.rep_layout.specs.Supers.{IsNil}
use Rattle.rep_steps.specs.Standings.{delivered}
use Rattle.rep_steps.specs.Nodes.{Node, IsNode, verdict_for}
use Rattle.rep_steps.specs.Orders.{IsOf}
use Rattle.rep_transfer.specs.declared.have.Have.{Have}
use Rattle.rep_transfer.specs.Transfers.{Transfer}
use Rattle.rep_catchup.specs.Donating.{IsDonated}
use Rattle.rep_catchup.specs.Joining.{IsFor, Becomes, GoesOn}

-- A joiner that told what it has: it is of a front of the order, or of no cluster, and then nothing was delivered to it.
pub record IsJoiner (O : Order) (k : Node) (have : Have) : Type 0 where
  pub uuid : have.uuid ≡ k.facts.uuid
  pub position : have.position ≡ delivered k.facts
  pub front : (IsNil k.facts.uuid → ⊥) → IsOf (take (delivered k.facts) O) k

-- A joiner of a donor's order that takes what the donor gives for what it has is, in the end, of that order up to what is durable at
-- the donor, and of its cluster.
abbrev pub JoinersHoldTheOrder : Type 0
JoinersHoldTheOrder =
    (O : Order) (n k m : Node) (have : Have) (t : Transfer) → IsNode n → IsOf O n → IsJoiner (take n.facts.durable O) k have → k.facts.setting.window ≡ n.facts.setting.window → k.facts.setting.rows ≡ n.facts.setting.rows
    → IsDonated n have t → IsFor k t → Becomes k t m → IsOf (take n.facts.durable O) m

-- The first of these records is the node's next item, and it judges it so; where there is none, the transfer ends where the node is.
abbrev pub AreNext : Node → List Judged → ℕ → Type 0
AreNext m [] last = last ≡ delivered m.facts
AreNext m (j ∷ more) last = (j.seqno ≡ delivered m.facts + 1) × (verdict_for m j.item ≡ j.verdict)

-- Whatever a joiner of a donor's order has taken of what the donor gives it, the next part is one that it takes: so what a donor gives is
-- refused for none of its parts.
abbrev pub DonatedPartsComeNext : Type 0
DonatedPartsComeNext =
    (O : Order) (n k m : Node) (have : Have) (t : Transfer) (uuid : List ℕ) (records more : List Judged) → IsNode n → IsOf O n → IsJoiner (take n.facts.durable O) k have → k.facts.setting.window ≡ n.facts.setting.window → k.facts.setting.rows ≡ n.facts.setting.rows
    → IsDonated n have t → IsNode m → GoesOn k uuid t.snapshot records m → t.records ≡ records ++ more → AreNext m more t.last
