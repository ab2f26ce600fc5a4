-- Where the items end that the log of a node may hold.
use Rattle.std.specs.Prelude.{◌≡◌, ℕ, ◌+◌, ◌-◌, ◌≤◌, List, length, take}
use Rattle.rep_types.specs.declared.judged.Judged.{Judged}
use Rattle.rep_steps.specs.Phase.{Phase}
use Rattle.rep_steps.specs.Tail.{records_of}
use Rattle.rep_steps.specs.LogLaws.{MayHold}
use Rattle.rep_steps.specs.Standings.{underway}
use Rattle.rep_steps.specs.Nodes.{Node, IsNode}
use Rattle.rep_steps.specs.Images.{Ends}

-- What it may hold are the node's first items behind its base, up to such an end.
pub record HeldEnds (n : Node) (held : List (List Judged)) : Type 0 where
  pub end : ℕ
  pub ends : Ends n end
  pub least : n.facts.durable ≤ end
  pub most : end ≤ n.facts.base + length n.items
  pub items : records_of held ≡ take (end - n.facts.base) n.items

-- A log whose blocks are the node's durable items, with those on their way that the node has next, holds items up to an end of the
-- node; and each such end has what is durable.
pub record LogsEndInTheirNode : Type 0 where
  pub held : (n : Node) (phase : Phase) (blocks : List (List Judged)) (sealed : List Judged) → IsNode n → phase ≡ n.facts.phase
      → records_of blocks ≡ take (n.facts.durable - n.facts.base) n.items → sealed ≡ take (underway n.facts.phase) n.facts.ahead
      → (held : List (List Judged)) → MayHold phase blocks sealed held → HeldEnds n held
  pub least : (n : Node) (end : ℕ) → Ends n end → n.facts.durable ≤ end
