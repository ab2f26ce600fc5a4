-- What a seat that hands a batch in comes to.
use Rattle.std.specs.Prelude.{◌≡◌, ◌⊎◌, ℕ, ◌≤◌, None, IfSome, List, []}
use Rattle.rep_types.specs.declared.item.Item.{Item}
use Rattle.rep_types.specs.declared.judged.Judged.{Judged}
use Rattle.rep_types.specs.declared.refusal.Refusal.{Refusal}
use Rattle.rep_types.specs.declared.refusal.Refusal.TheVariants.{Exhausted, OutOfMemory, Stopped}
use Rattle.rep_ordered.specs.declared.view.View.{View}
use Rattle.rep_ordered.specs.Going.{Went}
use Rattle.rep_node.specs.declared.home.Home.{Home}
use Rattle.rep_node.specs.declared.batch.Batch.{Batch}
use Rattle.rep_node.specs.declared.batch.Receipt.{Receipt}
use Rattle.rep_node.specs.declared.pace.Point.{Point}
use Rattle.rep_node.specs.Seats.{PassedOrStopped, SeesLegal}
use Rattle.rep_node.specs.Batches.{AreLetOn, Ascends, IsBatch, IsWhole}

module _ {D : Type 0} where
  -- The node was halted; or there are no more seqnos than these items, or there was no memory, and nothing was handed in.
  abbrev pub IsRefusal : ℕ → View (Home D) Judged → View (Home D) Judged → List Receipt → Refusal → Type 0
  IsRefusal count v w receipts refusal = ((refusal ≡ Stopped) × (w.halted ≡ 1)) ⊎ ((((refusal ≡ Exhausted) × (v.allowance ≤ count)) ⊎ (refusal ≡ OutOfMemory)) × (w.own ≡ v.own) × (receipts ≡ []))

  -- A seat handed in a batch of so many items: what it came to, and what is said of it.
  pub record HandedIn (lets : Point → ℕ → Type 0) (items : List Item) (count : ℕ) (v w : View (Home D) Judged) (b : Batch) : Type 0 where
    pub went : Went v w
    pub sees : SeesLegal v w
    pub passed : PassedOrStopped w
    pub batch : IsBatch items 0 count v w b.receipts.items
    pub order : Ascends b.receipts.items
    pub paced : AreLetOn lets b.receipts.items
    pub whole : b.end ≡ None → IsWhole 0 count v w b.receipts.items
    pub ended : IfSome b.end (IsRefusal count v w b.receipts.items)
