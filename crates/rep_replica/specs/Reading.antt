-- Reads of a replica, and of which orders its rows are.
use Rattle.std.specs.Prelude.{◌≡◌, ℕ, ◌||◌, true, false, is_some, List, take, Option, None, Result, Ok, Err}
use Rattle.rep_types.specs.declared.key.Key.{Key}
use Rattle.rep_types.specs.declared.refusal.Refusal.{Refusal}
use Rattle.rep_types.specs.declared.refusal.Refusal.TheVariants.{Stopped}
use Rattle.rep_types.specs.Settings.{Setting}
use Rattle.rep_types.specs.Order.{Order, read}
use Rattle.rep_disk.specs.declared.disk.Disk.{Ghosts}
use Rattle.rep_disk.specs.Devices.{Calls, SameHistory}
use Rattle.rep_log.specs.Moves.{fault_of}
use Rattle.rep_steps.specs.declared.event.Event.TheVariants.{Read}
use Rattle.rep_steps.specs.Nodes.{Node}
use Rattle.rep_steps.specs.Orders.{IsOf}
use Rattle.rep_recover.specs.Holding.{row}
use Rattle.rep_replica.specs.Replicas.{Replica, OnlyItsEngineAsks}
use Rattle.rep_replica.specs.Holding.{Holds, IsStep}

-- What a read answers, on any device: it is a step, which asks the device at most and changes nothing else but whether the replica is
-- stopped; a stopped one refuses it.
pub record IsRead {D : Type 0} (g : Ghosts D) (a : Replica D) (key : Key) (s : ℕ) (answer : Result (Option (List ℕ)) Refusal) (b : Replica D) : Type 0 where
  pub step : IsStep g a (Read key s) (row answer) b
  pub call : Calls g a.engine.disk b.engine.disk (fault_of answer)
  pub rest : OnlyItsEngineAsks a b
  pub same : SameHistory g a.engine.disk b.engine.disk
  pub stopped : (a.stopped || is_some a.engine.halted) ≡ true → (answer ≡ Err Stopped) × (b ≡ a)

-- the replica as it would be were it not stopped
abbrev pub running : {D : Type 0} → Replica D → Replica D
running r = record r { engine = record r.engine { halted = None }; stopped = false }

-- The replica's rows are those of this order, under these parameters: were it not stopped, it would stand for a node of an order, and
-- this one begins with what is durable there.
pub record HasRowsOf {D : Type 0} (g : Ghosts D) (r : Replica D) (p : Setting) (L : Order) : Type 0 where
  pub node : Node
  pub order : Order
  pub holds : Holds g node (running r)
  pub is_of : IsOf order node
  pub setting : node.facts.setting ≡ p
  pub durable : take node.facts.durable L ≡ take node.facts.durable order

-- A read forgets nothing: an order whose rows the replica has behind it is one whose rows it had before, whatever the read met. And a
-- row that it answers is the row of each such order.
pub record ReadsForgetNothing {D : Type 0} (g : Ghosts D) : Type 0 where
  pub forgets : (a b : Replica D) (key : Key) (s : ℕ) (answer : Result (Option (List ℕ)) Refusal) (p : Setting) (L : Order) → IsRead g a key s answer b
      → HasRowsOf g b p L → HasRowsOf g a p L
  pub rows : (a b : Replica D) (key : Key) (s : ℕ) (answer : Result (Option (List ℕ)) Refusal) (x : Option (List ℕ)) (p : Setting) (L : Order) → IsRead g a key s answer b → answer ≡ Ok x
      → HasRowsOf g b p L → x ≡ read p L key s
