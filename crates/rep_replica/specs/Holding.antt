-- What a replica stands for on an honest device, and what a step of it is.
use Rattle.std.specs.Prelude.{◌≡◌, ◌↔◌, ℕ, ◌≤◌, false, List, length, drop, None, Result, Ok, Err}
use Rattle.rep_disk.specs.declared.disk.Disk.{Ghosts}
use Rattle.rep_disk.specs.History.{IsImage}
use Rattle.rep_disk.specs.Moments.{LeavesOnly}
use Rattle.rep_types.specs.declared.item.Item.{Item}
use Rattle.rep_types.specs.declared.item.Item.TheVariants.{WriteSet}
use Rattle.rep_types.specs.declared.refusal.Refusal.{Refusal}
use Rattle.rep_types.specs.declared.verdict.Verdict.{Verdict}
use Rattle.rep_types.specs.declared.verdict.Verdict.TheVariants.{Commit}
use Rattle.rep_cert.specs.Holdings.{Holding, IsAskable, window_of, verdict_of}
use Rattle.rep_steps.specs.declared.event.Event.{Event}
use Rattle.rep_steps.specs.declared.event.Event.TheVariants.{Deliver, SetWindow}
use Rattle.rep_steps.specs.declared.answer.Answer.{Answer}
use Rattle.rep_steps.specs.declared.answer.Answer.TheVariants.{Gave, Refused}
use Rattle.rep_steps.specs.Moves.{Moves}
use Rattle.rep_steps.specs.Nodes.{Node, IsNode, Steps, verdict_for, window_at}
use Rattle.rep_steps.specs.Parts.{part_of}
use Rattle.rep_steps.specs.Images.{IsFrontAt, IsEndOf, AreJudgedFrom}
use Rattle.rep_recover.specs.Meanings.{Means}
use Rattle.rep_recover.specs.Holding.{Holds as EngineHolds}
use Rattle.rep_replica.specs.Replicas.{Replica, facts_of}
use Rattle.rep_replica.specs.Refusing.{RefusesUnchanged}
use Rattle.rep_replica.specs.Spelling.{Spells}

-- The replica stands for the node, on an honest device: the items were judged one after another from the base on; the engine has
-- taken so many of them and stands for the node with those, the others wait; and the certifier's windows from the base on are the
-- node's.
pub record Holds {D : Type 0} (g : Ghosts D) (n : Node) (r : Replica D) : Type 0 where
  pub running : r.stopped ≡ false
  pub facts : n.facts ≡ facts_of g r
  pub node : IsNode n
  pub judged : AreJudgedFrom n.facts.setting n.base n.items
  pub taken : ℕ
  pub within : taken ≤ length n.items
  pub engine : EngineHolds g (part_of r.engine.block taken n) r.engine
  pub waiting : r.backlog ≡ drop taken n.items
  pub windows : (k : ℕ) → n.base.position ≤ k → IsAskable r.certifier.current k → window_of r.certifier.current k ≡ window_at n k

-- A step of a replica. On any device the facts move, and with them each refusal comes exactly where it says. A replica that stands
-- for a node makes a step of that node; and a stop at any moment of it leaves images that mean a front of the node with all that is
-- durable. A device is honest behind it exactly where it was before. What is refused leaves the replica as it was, but for a page that
-- was asked for in vain and for a device that failed; and the bytes decide which page is corrupt.
pub record IsStep {D : Type 0} (g : Ghosts D) (old : Replica D) (e : Event) (a : Answer) (new : Replica D) : Type 0 where
  pub moves : Moves (facts_of g old) e a (facts_of g new)
  pub steps : (n : Node) → Holds g n old → (m : Node) × Steps n e a m × Holds g m new
  pub leaves : (n : Node) → Holds g n old → LeavesOnly (g.history old.engine.disk) (g.history new.engine.disk) (IsFrontAt Means n)
  pub device : g.honest old.engine.disk ↔ g.honest new.engine.disk
  pub unchanged : RefusesUnchanged e a old new
  pub spelled : Spells g old e a new

-- what a delivery answers
abbrev pub gave : Result Verdict Refusal → Answer
gave (Ok verdict) = Gave verdict
gave (Err refusal) = Refused refusal

-- The verdict by which a delivery is answered is the certifier's, on any device; a change of the window's size commits.
abbrev pub IsJudgedBy : Holding → Event → Answer → Type 0
IsJudgedBy h (Deliver seqno w) (Gave v) = v ≡ verdict_of h (WriteSet w)
IsJudgedBy h (SetWindow seqno size source trx) (Gave v) = v ≡ Commit
IsJudgedBy h e a = Unit {0}

-- More is so while it isn't stopped: each image means a front that ends exactly at what is durable, or, where a log's gate is opening,
-- at that with its block. So what was only delivered, and what was only written, doesn't come back.
abbrev pub LeavesItsEnds : {D : Type 0} → Ghosts D → Replica D → Type 0
LeavesItsEnds g r = (n : Node) → Holds g n r → r.engine.halted ≡ None → (image : List ℕ) → IsImage (g.history r.engine.disk) image → IsEndOf Means n image

-- What its certifier says of an item is what the node that it stands for does.
abbrev pub JudgesAsItsNode : {D : Type 0} → Ghosts D → Replica D → Type 0
JudgesAsItsNode g r = (n : Node) → Holds g n r → (i : Item) → verdict_of r.certifier.current i ≡ verdict_for n i
