-- What a batch came to for which a node was started from a replica and closed into one.
use Rattle.std.specs.Prelude.{◌≡◌, ◌⊎◌, ℕ, ◌+◌, ◌-◌, ◌<◌, ◌≤◌, ◌||◌, false, true, is_some, Option, None, Some, IfSome, List, [], ◌++◌, length, map, drop, slice_get}
use Rattle.std.specs.List.{AllZip}
use Rattle.rep_types.specs.declared.item.Item.{Item}
use Rattle.rep_types.specs.declared.judged.Judged.{Judged}
use Rattle.rep_types.specs.declared.refusal.Refusal.{Refusal}
use Rattle.rep_types.specs.declared.refusal.Refusal.TheVariants.{Exhausted, OutOfMemory, Stopped}
use Rattle.rep_types.specs.declared.limits.TheConstants.{MAX_SEQNO}
use Rattle.rep_types.specs.Order.{Order, history as history_of, items_of as items_in}
use Rattle.rep_disk.specs.declared.disk.Disk.{Ghosts}
use Rattle.rep_disk.specs.History.{IsImage}
use Rattle.rep_engine.specs.Engines.{durable_of}
use Rattle.rep_steps.specs.Nodes.{Node}
use Rattle.rep_steps.specs.Orders.{IsOf}
use Rattle.rep_steps.specs.Images.{IsFrontOf}
use Rattle.rep_image.specs.Meanings.{Means}
use Rattle.rep_replica.specs.Replicas.{Replica}
use Rattle.rep_replica.specs.Holding.{Holds}
use Rattle.rep_stations.specs.Judging.{Legal}
use Rattle.rep_ordered.specs.Views.{Every, StartsWith}
use Rattle.rep_ordered.specs.Counts.{times}
use Rattle.rep_node.specs.declared.batch.Receipt.{Receipt}
use Rattle.rep_node.specs.Batches.{Ascends, entry_of, index_of}

-- the receipt is of the item at its place, as this entry of the history
pub record IsReceiptOf (items : List Item) (r : Receipt) (j : Judged) : Type 0 where
  pub item : Item
  pub at : slice_get items r.index ≡ Some item
  pub entry : j ≡ entry_of item r

-- the receipt is of an entry of the history, behind this position, which is durable
pub record IsTold (items : List Item) (position upto : ℕ) (history : List Judged) (r : Receipt) : Type 0 where
  pub judged : Judged
  pub receipt : IsReceiptOf items r judged
  pub behind : position < r.seqno
  pub at : slice_get history (r.seqno - position - 1) ≡ Some judged
  pub durable : r.seqno ≤ upto

-- A batch of so many items came to this end: the replica that it left is stopped, or nothing was handed in.
abbrev pub EndedFor : {D : Type 0} → Replica D → ℕ → Replica D → List Receipt → Refusal → Type 0
EndedFor old count new receipts refusal = ((refusal ≡ Stopped) × ((new.stopped || is_some new.engine.halted) ≡ true)) ⊎ ((((refusal ≡ Exhausted) × (MAX_SEQNO ≤ durable_of old.engine.log + count)) ⊎ (refusal ≡ OutOfMemory)) × (receipts ≡ []))

-- The history that the node came to is legal behind what the old replica held. Each receipt is of an entry of it, of another item of the
-- batch, and durable, and its seqno is above that of the one before; where the batch has no end, the history is that of the receipts, one for each item, and where it was refused, there is
-- none. Where the old replica stood for an order, the history is what that order has behind it with the history's items at its end; so the new
-- one stands for that longer order unless it was stopped, and each image of its device for a front of it with what is durable.
pub record IsServed {D : Type 0} (g : Ghosts D) (old : Replica D) (items : List Item) (new : Replica D) (receipts : List Receipt) (end : Option Refusal) : Type 0 where
  pub judged : List Judged
  pub legal : Legal old.certifier.current judged
  pub told : Every (IsTold items (durable_of old.engine.log) (durable_of new.engine.log) judged) receipts
  pub order : Ascends receipts
  pub places : (i : ℕ) → times i (map index_of receipts) ≤ 1
  pub count : end ≡ None → length receipts ≡ length items
  pub whole : end ≡ None → AllZip (IsReceiptOf items) receipts judged
  pub idle : IfSome end (λ (refusal : Refusal). (refusal ≡ Stopped) ⊎ (judged ≡ []))
  pub entries : (L : Order) (n : Node) → IsOf L n → Holds g n old → judged ≡ drop (length L) (history_of old.certifier.current.setting (L ++ items_in judged))
  pub stands : (L : Order) (n : Node) → IsOf L n → Holds g n old → new.stopped ≡ false → (m : Node) × IsOf (L ++ items_in judged) m × Holds g m new
  pub taken : List Judged
  pub begins : StartsWith judged taken
  pub images : (L : Order) (n : Node) → IsOf L n → Holds g n old → (image : List ℕ) → IsImage (g.history new.engine.disk) image
      → IsFrontOf Means old.engine.checkpoint.base.uuid old.certifier.current.setting (L ++ items_in taken) (durable_of new.engine.log) image
