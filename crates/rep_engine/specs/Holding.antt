-- What an engine stands for on an honest device.
use Rattle.std.specs.Prelude.{◌≡◌, ℕ, List, ◌++◌, length, map, Option, None, Result, Ok, Err}
use Rattle.rep_types.specs.declared.judged.Judged.{Judged}
use Rattle.rep_types.specs.declared.reply.Reply.{Reply}
use Rattle.rep_types.specs.declared.refusal.Refusal.{Refusal}
use Rattle.rep_disk.specs.declared.disk.Disk.{Ghosts}
use Rattle.rep_disk.specs.History.{stable, IsImage}
use Rattle.rep_cells.specs.States.{States}
use Rattle.rep_cells.specs.Known.{Assigns}
use Rattle.rep_versions.specs.Following.{AreVersionsOf, effect_of}
use Rattle.rep_log.specs.Standing.{stands_at}
use Rattle.rep_steps.specs.declared.answer.Answer.{Answer}
use Rattle.rep_steps.specs.declared.answer.Answer.TheVariants.{Wrote, Synced, Row, Refused}
use Rattle.rep_steps.specs.Nodes.{Node, IsNode}
use Rattle.rep_steps.specs.Images.{IsFrontAt, IsEndOf}
use Rattle.rep_checkpoint.specs.Meanings.{Means}
use Rattle.rep_checkpoint.specs.Nodes.{StandsAs}
use Rattle.rep_engine.specs.Engines.{Engine, facts_of}

-- While the device has not failed: what is known of its places is that the node stands there; the versions are those of the items
-- behind the base; and the log knows which cells stand open.
pub record Stands {D : Type 0} (g : Ghosts D) (n : Node) (e : Engine D) : Type 0 where
  pub states : States
  pub assigns : Assigns e.layout (g.history e.disk) states
  pub blocks : List (List Judged)
  pub sealed : List Judged
  pub stands : StandsAs n (length (stable (g.history e.disk))) e.checkpoint e.log blocks sealed states
  pub versions : AreVersionsOf n.base.position (map effect_of n.items) e.kept
  pub gates : (i : ℕ) → n.gates i ≡ stands_at e.log i

-- The engine stands for the node, on an honest device. Each image of the device means a front of the node that has what is durable;
-- a stopped engine keeps that, and no more.
pub record Holds {D : Type 0} (g : Ghosts D) (n : Node) (e : Engine D) : Type 0 where
  pub is_honest : g.honest e.disk
  pub facts : n.facts ≡ facts_of g e
  pub node : IsNode n
  pub runs : e.halted ≡ None → Stands g n e
  pub images : (image : List ℕ) → IsImage (g.history e.disk) image → IsFrontAt Means n image

-- More is so while it isn't stopped: each image means a front that ends exactly at what is durable, or, where a log's gate is opening,
-- at that with its block. So what was only accepted, and what was only written, doesn't come back.
abbrev pub LeavesItsEnds : {D : Type 0} → Ghosts D → Engine D → Type 0
LeavesItsEnds g e = (n : Node) → Holds g n e → e.halted ≡ None → (image : List ℕ) → IsImage (g.history e.disk) image → IsEndOf Means n image

-- ---- what the calls answer, as a replica does

abbrev pub wrote : Result (Unit {0}) Refusal → Answer
wrote (Ok x) = Wrote
wrote (Err r) = Refused r

abbrev pub synced : Result (List Reply) Refusal → Answer
synced (Ok replies) = Synced replies
synced (Err r) = Refused r

abbrev pub row : Result (Option (List ℕ)) Refusal → Answer
row (Ok value) = Row value
row (Err r) = Refused r

-- ---- more items

-- the node with these items behind its own
abbrev pub with_items : List Judged → Node → Node
with_items js n = record n { facts = record n.facts { ahead = n.facts.ahead ++ js }; items = n.items ++ js }
