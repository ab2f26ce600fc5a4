-- The part of a node that has fewer items: what an engine has taken of what was delivered.
use Rattle.std.specs.Prelude.{◌≡◌, ℕ, ◌-◌, ◌≤◌, List, [], ◌++◌, length, take, drop}
use Rattle.rep_types.specs.declared.judged.Judged.{Judged}
use Rattle.rep_types.specs.declared.key.Key.{Key}
use Rattle.rep_log.specs.Fronts.{fitting}
use Rattle.rep_log.specs.declared.phase.Phase.TheVariants.{Resting}
use Rattle.rep_steps.specs.declared.event.Event.{Event}
use Rattle.rep_steps.specs.declared.event.Event.TheVariants.{Log, Sync, Check, Flush, Read}
use Rattle.rep_steps.specs.declared.answer.Answer.{Answer}
use Rattle.rep_steps.specs.Standings.{Standing, gathered}
use Rattle.rep_steps.specs.Moves.{opening, Moves}
use Rattle.rep_steps.specs.Nodes.{Node, Steps, reached, passed}

-- the facts with these items ahead
abbrev pub with_ahead : List Judged → Standing → Standing
with_ahead ahead s = record s { ahead = ahead }

-- the node with these items ahead, of the first q behind the base
abbrev pub part_of : List Judged → ℕ → Node → Node
part_of block q n = record n { facts = with_ahead block n.facts; items = take q n.items }

-- What a step of a part comes to: the same step of the whole node, to a node of which it then is the like part. So many of the
-- items are then behind its base: none, or those that a sync leaves there.
pub record Widens (n part : Node) (e : Event) (a : Answer) (q : ℕ) : Type 0 where
  pub to : Node
  pub steps : Steps n e a to
  pub past : ℕ
  pub most : past ≤ passed n.facts
  pub within : past ≤ q
  pub is_part : part ≡ part_of part.facts.ahead (q - past) to
  pub items : to.items ≡ drop past n.items
  pub base : to.base ≡ reached n.facts.setting n.base (take past n.items)

-- What the log, a sync, a read and the checkpoint do with what was taken is what they do with all that was delivered, on any device
-- and at a node: where the next block would take no more, where what becomes durable was taken, and for what is durable.
pub record PartsStepAsTheWhole : Type 0 where
  pub log_moves : (s t : Standing) (a : Answer) (ahead : List Judged) → (s.phase ≡ Resting → gathered s ≡ fitting [] ahead) → Moves s Log a t → Moves (with_ahead ahead s) Log a (with_ahead ahead t)
  pub sync_moves : (s t : Standing) (a : Answer) (more : List Judged) → opening s.phase ≤ length s.ahead → Moves s Sync a t → Moves (with_ahead (s.ahead ++ more) s) Sync a (with_ahead (t.ahead ++ more) t)
  pub check_moves : (s t : Standing) (a : Answer) (ahead : List Judged) → Moves s Check a t → Moves (with_ahead ahead s) Check a (with_ahead ahead t)
  pub flush_moves : (s t : Standing) (page : ℕ) (a : Answer) (ahead : List Judged) → Moves s (Flush page) a t → Moves (with_ahead ahead s) (Flush page) a (with_ahead ahead t)
  pub read_moves : (s t : Standing) (key : Key) (at : ℕ) (a : Answer) (ahead : List Judged) → Moves s (Read key at) a t → Moves (with_ahead ahead s) (Read key at) a (with_ahead ahead t)
  pub log : (n part : Node) (block : List Judged) (q : ℕ) (a : Answer) → (n.facts.phase ≡ Resting → fitting [] block ≡ gathered n.facts) → Steps (part_of block q n) Log a part → Widens n part Log a q
  pub sync : (n part : Node) (block more : List Judged) (q : ℕ) (a : Answer) → n.facts.ahead ≡ block ++ more → passed n.facts ≤ q → opening n.facts.phase ≤ length block → Steps (part_of block q n) Sync a part → Widens n part Sync a q
  pub check : (n part : Node) (block : List Judged) (q : ℕ) (a : Answer) → n.facts.durable - n.facts.base ≤ q → Steps (part_of block q n) Check a part → Widens n part Check a q
  pub flush : (n part : Node) (block : List Judged) (q page : ℕ) (a : Answer) → Steps (part_of block q n) (Flush page) a part → Widens n part (Flush page) a q
  pub read : (n part : Node) (block : List Judged) (q : ℕ) (key : Key) (at : ℕ) (a : Answer) → n.base.position ≡ n.facts.base → n.facts.durable - n.facts.base ≤ q → Steps (part_of block q n) (Read key at) a part → Widens n part (Read key at) a q
