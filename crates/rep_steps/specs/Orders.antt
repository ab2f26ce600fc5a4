-- Nodes of an order.
use Rattle.std.specs.Prelude.{◌≡◌, ◌⊎◌, ℕ, ◌+◌, ◌≤◌, [], ◌∷◌, ◌++◌, length, map, take, drop}
use Rattle.rep_types.specs.declared.item.Item.TheVariants.{WriteSet}
use Rattle.rep_types.specs.declared.refusal.Refusal.{Refusal}
use Rattle.rep_types.specs.Replies.{reply_of}
use Rattle.rep_types.specs.Order.{Order, verdict, history, read, window, state}
use Rattle.rep_steps.specs.declared.event.Event.{Event}
use Rattle.rep_steps.specs.declared.event.Event.TheVariants.{Deliver, SetWindow, Log, Sync, Check, Flush, Read}
use Rattle.rep_steps.specs.declared.answer.Answer.{Answer}
use Rattle.rep_steps.specs.declared.answer.Answer.TheVariants.{Gave, Wrote, Synced, Row, Refused}
use Rattle.rep_steps.specs.Events.{change}
use Rattle.rep_steps.specs.Standings.{Standing, delivered}
use Rattle.rep_steps.specs.Moves.{opening, check_answer}
use Rattle.rep_steps.specs.Nodes.{Node, IsNode, Steps, state_at, window_at}

-- The node is of the order: its base is the state after a front of it, and its items are the rest.
pub record IsOf (L : Order) (n : Node) : Type 0 where
  pub within : n.base.position ≤ length L
  pub base : n.base ≡ state n.facts.setting (take n.base.position L)
  pub items : n.items ≡ drop n.base.position (history n.facts.setting L)

-- the item of a delivery that was answered by a verdict
abbrev pub accepted : Event → Answer → Order
accepted (Deliver seqno w) (Gave v) = WriteSet w ∷ []
accepted (SetWindow seqno size source trx) (Gave v) = change size source trx ∷ []
accepted e a = []

-- What an event is answered where no refusal comes: what the order says.
abbrev pub answer_of : Order → Standing → Event → Answer
answer_of L s (Deliver seqno w) = Gave (verdict s.setting (L ++ WriteSet w ∷ []) (length L + 1))
answer_of L s (SetWindow seqno size source trx) = Gave (verdict s.setting (L ++ change size source trx ∷ []) (length L + 1))
answer_of L s Log = Wrote
answer_of L s Sync = Synced (map reply_of (take (opening s.phase) (drop s.durable (history s.setting L))))
answer_of L s Check = check_answer s s.stage
answer_of L s (Flush page) = Wrote
answer_of L s (Read key at) = Row (read s.setting L key at)

-- What a step at a node of the order comes to: a node of the order, with the item that was delivered; and the answer is a refusal,
-- or what the order says.
pub record FollowsTheOrder (L : Order) (n : Node) (e : Event) (a : Answer) (m : Node) : Type 0 where
  pub node : IsNode m
  pub order : IsOf (L ++ accepted e a) m
  pub answered : ((r : Refusal) × (a ≡ Refused r)) ⊎ (a ≡ answer_of L n.facts e)

abbrev pub StepsFollowTheOrder : Type 0
StepsFollowTheOrder = (L : Order) (n m : Node) (e : Event) (a : Answer) → IsNode n → IsOf L n → Steps n e a m → FollowsTheOrder L n e a m

-- What a node of the order holds: as many items are delivered as the order has, and window and state at a position from the base on are
-- the order's.
pub record HoldsOf (L : Order) (n : Node) : Type 0 where
  pub count : delivered n.facts ≡ length L
  pub window : (k : ℕ) → n.base.position ≤ k → k ≤ length L → window_at n k ≡ window n.facts.setting (take k L)
  pub state : (k : ℕ) → n.base.position ≤ k → k ≤ length L → state_at n k ≡ state n.facts.setting (take k L)

abbrev pub NodesHoldTheOrder : Type 0
NodesHoldTheOrder = (L : Order) (n : Node) → IsNode n → IsOf L n → HoldsOf L n
