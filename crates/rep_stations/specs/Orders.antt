-- The one history as a piece of an order (this project).
use Rattle.std.specs.Prelude.{◌≡◌, ◌⊎◌, ℕ, List, ◌++◌, length, drop}
use Rattle.rep_types.specs.declared.judged.Judged.{Judged}
use Rattle.rep_types.specs.declared.key.Key.{Key}
use Rattle.rep_types.specs.declared.refusal.Refusal.{Refusal}
use Rattle.rep_types.specs.Order.{Order, items_of, read, history as history_of}
use Rattle.rep_disk.specs.declared.disk.Disk.{Ghosts}
use Rattle.rep_disk.specs.History.{IsImage}
use Rattle.rep_cert.specs.Holdings.{Holding}
use Rattle.rep_steps.specs.declared.event.Event.TheVariants.{Read}
use Rattle.rep_steps.specs.declared.answer.Answer.{Answer}
use Rattle.rep_steps.specs.declared.answer.Answer.TheVariants.{Row, Refused}
use Rattle.rep_steps.specs.Nodes.{Node, Steps}
use Rattle.rep_steps.specs.Orders.{IsOf}
use Rattle.rep_steps.specs.Images.{IsFrontOf}
use Rattle.rep_image.specs.Meanings.{Means}
use Rattle.rep_engine.specs.Engines.{Engine, durable_of}
use Rattle.rep_engine.specs.Holding.{Holds}
use Rattle.rep_stations.specs.Judging.{Legal}
use Rattle.rep_stations.specs.Taking.{GoesOn, StartsAs, HasTaken}

-- Where what was there at the start stands for a node of an order: a legal history is what the order has behind that with the history's
-- items at its end, each with its seqno and its verdict there; and what goes on by it is a node of that longer order. Each image that an
-- engine leaves that has taken the history stands for a front of it with what is durable, also once the device failed; and a row that
-- the engine reads is the row of it.
pub record HistoriesExtendTheOrder {D : Type 0} (g : Ghosts D) : Type 0 where
  pub entries : (L : Order) (n : Node) (first : Engine D) (c : Holding) (items : List Judged) → IsOf L n → StartsAs g first c n → Legal c items
      → items ≡ drop (length L) (history_of c.setting (L ++ items_of items))
  pub node : (L : Order) (n m : Node) (first : Engine D) (c : Holding) (items : List Judged) → IsOf L n → StartsAs g first c n → Legal c items → GoesOn n items m → IsOf (L ++ items_of items) m
  pub images : (L : Order) (n : Node) (first e : Engine D) (c : Holding) (items : List Judged) → IsOf L n → StartsAs g first c n → Legal c items → HasTaken g first c items e
      → (image : List ℕ) → IsImage (g.history e.disk) image → IsFrontOf Means e.checkpoint.base.uuid c.setting (L ++ items_of items) (durable_of e.log) image
  pub rows : (L : Order) (n : Node) (first e : Engine D) (c : Holding) (items : List Judged) → IsOf L n → StartsAs g first c n → Legal c items → HasTaken g first c items e
      → (new : Engine D) (key : Key) (at : ℕ) (a : Answer) → ((m : Node) → Holds g m e → (k : Node) × Steps m (Read key at) a k × Holds g k new)
      → ((r : Refusal) × (a ≡ Refused r)) ⊎ (a ≡ Row (read c.setting (L ++ items_of items) key at))
