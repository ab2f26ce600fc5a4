-- What a replica stands for: a state, and the items that came behind it.
use Rattle.std.specs.Prelude.{◌≡◌, ◌≢◌, ◌⊎◌, ℕ, ◌+◌, ◌-◌, ◌%◌, ◌≤◌, ◌==◌, Bool, true, false, if◌then◌else◌, List, [], ◌∷◌, ◌++◌, length, fold, take, drop, Option, None, MatchOption}
use Rattle.rep_types.specs.declared.judged.Judged.{Judged}
use Rattle.rep_types.specs.declared.refusal.Refusal.TheVariants.{Corrupt}
use Rattle.rep_types.specs.declared.refusal.Part.TheVariants.{Pages}
use Rattle.rep_types.specs.declared.verdict.Verdict.{Verdict}
use Rattle.rep_types.specs.declared.verdict.Verdict.TheVariants.{Commit}
use Rattle.rep_types.specs.declared.item.Item.{Item}
use Rattle.rep_types.specs.declared.item.Item.TheVariants.{WriteSet}
use Rattle.rep_types.specs.Settings.{Setting}
use Rattle.rep_types.specs.Windows.{Window}
use Rattle.rep_types.specs.Items.{writes_of}
use Rattle.rep_types.specs.Order.{State, counts, content_after, extended, judge}
use Rattle.rep_log.specs.declared.phase.Phase.{Phase}
use Rattle.rep_log.specs.declared.phase.Phase.TheVariants.{Closing, Opening}
use Rattle.rep_steps.specs.declared.event.Event.{Event}
use Rattle.rep_steps.specs.declared.event.Event.TheVariants.{Deliver, SetWindow, Log, Sync, Check, Flush, Read}
use Rattle.rep_steps.specs.declared.answer.Answer.{Answer}
use Rattle.rep_steps.specs.declared.answer.Answer.TheVariants.{Refused}
use Rattle.rep_steps.specs.Events.{change}
use Rattle.rep_steps.specs.Standings.{Standing, delivered, refusal, IsStanding}
use Rattle.rep_steps.specs.Moves.{Found, answer, after, Moves, Fails, next_item, with_item, touched, base_after}

-- the state after one more judged item, and after some of them
abbrev pub advanced : Setting → State → Judged → State
advanced p S j = record {
  position = S.position + 1;
  content = if counts j then content_after S.content (writes_of j.item) else S.content;
  kept = extended S.kept j;
}

abbrev pub reached : Setting → State → List Judged → State
reached p S js = fold (advanced p) S js

-- A node: the facts, the base, what was delivered behind it, and which of the log's cells stand open.
pub record Node : Type 0 where
  pub facts : Standing
  pub base : State
  pub items : List Judged
  pub gates : ℕ → Bool

-- the state at a position from the base on
abbrev pub state_at : Node → ℕ → State
state_at n position = reached n.facts.setting n.base (take (position - n.base.position) n.items)

-- the window at a position
abbrev pub window_at : Node → ℕ → Window
window_at n position = (state_at n position).kept

-- Facts and items agree.
pub record IsNode (n : Node) : Type 0 where
  pub facts : IsStanding n.facts
  pub position : n.base.position ≡ n.facts.base
  pub enough : n.facts.durable ≤ n.facts.base + length n.items
  pub ahead : n.facts.ahead ≡ drop (n.facts.durable - n.facts.base) n.items

-- ---- what a step finds

-- the verdict on the next item
abbrev pub verdict_for : Node → Item → Verdict
verdict_for n i = judge n.facts.setting (delivered n.facts) (window_at n (delivered n.facts)) i

abbrev pub verdict_on : Node → Event → Verdict
verdict_on n (Deliver seqno w) = verdict_for n (WriteSet w)
verdict_on n (SetWindow seqno size source trx) = verdict_for n (change size source trx)
verdict_on n e = Commit

abbrev pub row_on : Node → Event → Option (List ℕ)
row_on n (Read key at) = (state_at n at).content key
row_on n e = None

-- the cell that the log comes to
abbrev pub cell : Standing → ℕ
cell s = s.next % s.setting.cells

abbrev pub found : Node → Event → Found
found n e = record {
  verdict = verdict_on n e;
  stale = n.gates (cell n.facts);
  left = touched n.facts.setting.rows (take (n.facts.durable - n.facts.base) n.items);
  row = row_on n e;
}

-- ---- the node after an event

abbrev pub gate_at : Phase → ℕ → (ℕ → Bool) → ℕ → Bool
gate_at Closing i gates j = if j == i then false else gates j
gate_at (Opening k) i gates j = if j == i then true else gates j
gate_at phase i gates j = gates j

-- how many items a sync leaves behind the base
abbrev pub passed : Standing → ℕ
passed s = base_after s.base s.stage - s.base

-- the node with one more item, whatever its kind
abbrev pub delivered_to : Node → Item → Node
delivered_to n i = record n {
  facts = with_item n.facts i (verdict_for n i);
  items = n.items ++ next_item n.facts i (verdict_for n i) ∷ [];
}

abbrev pub moved : Node → Event → Node
moved n (Deliver seqno w) = delivered_to n (WriteSet w)
moved n (SetWindow seqno size source trx) = delivered_to n (change size source trx)
moved n Log = record n { facts = after n.facts Log (found n Log) }
moved n Sync = record {
  facts = after n.facts Sync (found n Sync);
  base = reached n.facts.setting n.base (take (passed n.facts) n.items);
  items = drop (passed n.facts) n.items;
  gates = gate_at n.facts.phase (cell n.facts) n.gates;
}
moved n Check = record n { facts = after n.facts Check (found n Check) }
moved n (Flush page) = record n { facts = after n.facts (Flush page) (found n (Flush page)) }
moved n (Read key at) = n

-- An event at n, its answer, and the node m after it.
abbrev pub Steps : Node → Event → Answer → Node → Type 0
Steps n e a m = MatchOption (refusal n.facts e)
    (((a ≡ answer n.facts e (found n e)) × (m ≡ moved n e)) ⊎ (Fails n.facts e a m.facts × (m ≡ record n { facts = m.facts })))
    (λ r. (a ≡ Refused r) × (m ≡ n))

-- ---- steps of the facts, and of the node

-- Whatever the step found leads where leads what the node finds, and no page was found corrupt.
pub record Finds (n : Node) (e : Event) (a : Answer) (t : Standing) : Type 0 where
  pub whole : a ≢ Refused (Corrupt Pages)
  pub told : (f : Found) → a ≡ answer n.facts e f → t ≡ after n.facts e f → a ≡ answer n.facts e (found n e)
  pub left : (f : Found) → a ≡ answer n.facts e f → t ≡ after n.facts e f → t ≡ after n.facts e (found n e)

-- A step of a node moves its facts as on any device; and facts that moved so move a node, where the step found what the node
-- finds.
pub record StepsAreMoves : Type 0 where
  pub moves : (n m : Node) (e : Event) (a : Answer) → Steps n e a m → Moves n.facts e a m.facts
  pub steps : (n : Node) (e : Event) (a : Answer) (t : Standing) → Moves n.facts e a t → Finds n e a t → (m : Node) × Steps n e a m × (m.facts ≡ t)

-- What a step of a node leads to is a node.
abbrev pub NodesStayNodes : Type 0
NodesStayNodes = (n m : Node) (e : Event) (a : Answer) → IsNode n → Steps n e a m → IsNode m

-- A node is one however often its device failed.
abbrev pub NodesOutlastFailures : Type 0
NodesOutlastFailures = (failures : ℕ) (n : Node) → IsNode n → IsNode (record n { facts = record n.facts { failures = failures } })
