-- What a stop leaves, and the node that opening makes of it.
use Rattle.std.specs.Prelude.{◌≡◌, ◌⊎◌, ℕ, ◌+◌, ◌-◌, ◌≤◌, Bool, false, List, [], ◌∷◌, ◌++◌, length, take, drop, IsTrue}
use Rattle.uuid.specs.Parts.{is_nil_bytes}
use Rattle.rep_types.specs.declared.judged.Judged.{Judged}
use Rattle.rep_types.specs.declared.limits.TheConstants.{MAX_SEQNO}
use Rattle.rep_types.specs.Settings.{Setting, is_setting}
use Rattle.rep_types.specs.Order.{Order, State, items_of, state, history, judge}
use Rattle.rep_disk.specs.History.{History}
use Rattle.rep_disk.specs.Moments.{LeavesOnly}
use Rattle.rep_log.specs.declared.phase.Phase.TheVariants.{Resting, Opening}
use Rattle.rep_steps.specs.declared.event.Event.{Event}
use Rattle.rep_steps.specs.declared.answer.Answer.{Answer}
use Rattle.rep_steps.specs.Standings.{Off, Retiring, Standing}
use Rattle.rep_steps.specs.Nodes.{Node, IsNode, Steps, advanced, reached}
use Rattle.rep_steps.specs.Orders.{IsOf}
use Rattle.rep_steps.specs.Runs.{Runs, accepted_by}

-- What an image means: of which state UUID and under which parameters it is, a base, and the tail behind it.
pub record Meaning : Type 0 where
  pub uuid : List ℕ
  pub setting : Setting
  pub base : State
  pub tail : List Judged

-- The meaning stands for the order.
pub record StandsFor (uuid : List ℕ) (p : Setting) (L : Order) (b : Meaning) : Type 0 where
  pub uuid_is : b.uuid ≡ uuid
  pub setting_is : b.setting ≡ p
  pub within : b.base.position ≤ length L
  pub base_is : b.base ≡ state p (take b.base.position L)
  pub tail_is : b.tail ≡ drop b.base.position (history p L)

-- Each item has the next seqno and the verdict that judging it gives, one after another from a state on.
abbrev pub AreJudgedFrom : Setting → State → List Judged → Type 0
AreJudgedFrom p S [] = Unit {0}
AreJudgedFrom p S (j ∷ js) = (j.seqno ≡ S.position + 1) × (j.verdict ≡ judge p S.position S.kept j.item) × AreJudgedFrom p (advanced p S j) js

-- Items that are so judged from an order's state on are those of the order with them at its end; and what stands for
-- an order has items that are so judged.
pub record JudgedItemsExtendTheOrder : Type 0 where
  pub extend : (uuid : List ℕ) (p : Setting) (L : Order) (js : List Judged) → AreJudgedFrom p (state p L) js
      → StandsFor uuid p (L ++ items_of js) (record { uuid = uuid; setting = p; base = state p L; tail = js })
  pub judged : (uuid : List ℕ) (p : Setting) (L : Order) (b : Meaning) → StandsFor uuid p L b → AreJudgedFrom p b.base b.tail

-- The meaning is a front, up to a position, of a base and the items behind it: its base is a state on the way, its tail the
-- items from there.
pub record IsFrontFrom (uuid : List ℕ) (p : Setting) (first : State) (items : List Judged) (end : ℕ) (b : Meaning) : Type 0 where
  pub uuid_is : b.uuid ≡ uuid
  pub setting_is : b.setting ≡ p
  pub past : ℕ
  pub order : first.position + past ≤ end
  pub within : end ≤ first.position + length items
  pub base_is : b.base ≡ reached p first (take past items)
  pub tail_is : b.tail ≡ take (end - (first.position + past)) (drop past items)

-- a front of the node: the same for each node with its base and items
abbrev pub IsFront : Node → ℕ → Meaning → Type 0
IsFront n end b = IsFrontFrom n.facts.uuid n.facts.setting n.base n.items end b

abbrev pub FrontsStandForTheOrder : Type 0
FrontsStandForTheOrder = (L : Order) (n : Node) (end : ℕ) (b : Meaning) → IsNode n → IsOf L n → IsFront n end b → StandsFor n.facts.uuid n.facts.setting (take end L) b

-- Where a log's gate is opening, the block may be there or not.
abbrev pub Ends : Node → ℕ → Type 0
Ends n end = (end ≡ n.facts.durable) ⊎ ((k : ℕ) × (n.facts.phase ≡ Opening k) × (end ≡ n.facts.durable + k))

-- An image of a node means a front of it that has what is durable; `means` says what an image means.
pub record IsFrontAt (means : List ℕ → Meaning → Type 0) (n : Node) (image : List ℕ) : Type 0 where
  pub meaning : Meaning
  pub reads : means image meaning
  pub end : ℕ
  pub least : n.facts.durable ≤ end
  pub front : IsFront n end meaning

-- An image of a node means a front of it that ends where the node's log does: exactly at what is durable, or, where a gate is
-- opening, at that with its block. So none of what was only delivered comes back.
pub record IsEndOf (means : List ℕ → Meaning → Type 0) (n : Node) (image : List ℕ) : Type 0 where
  pub meaning : Meaning
  pub reads : means image meaning
  pub end : ℕ
  pub ends : Ends n end
  pub front : IsFront n end meaning

-- An image stands for a front of the order that has its first d items.
pub record IsFrontOf (means : List ℕ → Meaning → Type 0) (uuid : List ℕ) (p : Setting) (L : Order) (d : ℕ) (image : List ℕ) : Type 0 where
  pub meaning : Meaning
  pub reads : means image meaning
  pub end : ℕ
  pub least : d ≤ end
  pub most : end ≤ length L
  pub stands : StandsFor uuid p (take end L) meaning

-- A run at n: the steps, and at each moment of it a stop leaves only images that stand for a front of the order that grew, with
-- what was durable at its start.
pub record RunsOn (means : List ℕ → Meaning → Type 0) (old new : History) (n : Node) (events : List Event) (answers : List Answer) (m : Node) : Type 0 where
  pub runs : Runs Steps n events answers m
  pub leaves : (L : Order) → IsOf L n → LeavesOnly old new (IsFrontOf means n.facts.uuid n.facts.setting (L ++ accepted_by events answers) n.facts.durable)

-- ---- opening

-- the node that opening makes of an image's meaning
abbrev pub opened : Standing → (ℕ → Bool) → Meaning → Node
opened s gates b = record {
  facts = record s { uuid = b.uuid; setting = b.setting; base = b.base.position; durable = b.base.position + length b.tail; ahead = []; phase = Resting };
  base = b.base;
  items = b.tail;
  gates = gates;
}

-- where the image says what the cells and the stage are
pub record IsOpening (s : Standing) (b : Meaning) : Type 0 where
  pub allowed : IsTrue (is_setting b.setting)
  pub undefined : IsTrue (is_nil_bytes b.uuid) → b.base.position + length b.tail ≡ 0
  pub limit : b.base.position + length b.tail ≤ MAX_SEQNO
  pub started : s.start ≤ s.next
  pub room : s.next ≤ s.start + b.setting.cells
  pub stage : (s.stage ≡ Off) ⊎ (s.stage ≡ Retiring false)

-- It is a node, and of the order that the image stands for.
pub record OpensTheOrder (s : Standing) (gates : ℕ → Bool) (b : Meaning) : Type 0 where
  pub node : IsNode (opened s gates b)
  pub order : (L : Order) → StandsFor b.uuid b.setting L b → IsOf L (opened s gates b)

abbrev pub OpeningsOpenTheOrder : Type 0
OpeningsOpenTheOrder = (s : Standing) (gates : ℕ → Bool) (b : Meaning) → IsOpening s b → OpensTheOrder s gates b
