-- Rows that are swapped.
use Rattle.std.specs.Prelude.{◌≡◌, ℕ, ◌-◌, if◌then◌else◌, List, Option, Result, Ok}
use Rattle.rep_types.specs.declared.key.Key.{Key}
use Rattle.rep_types.specs.declared.value.Write.{Write}
use Rattle.rep_types.specs.declared.refusal.Refusal.{Refusal}
use Rattle.rep_types.specs.Keys.{key_eq}
use Rattle.rep_types.specs.Settings.{Setting}
use Rattle.rep_types.specs.declared.item.Item.TheVariants.{WriteSet as OfWriteSet}
use Rattle.rep_types.specs.Transactions.{Transaction}
use Rattle.rep_types.specs.Order.{Order, item, read}
use Rattle.rep_types.specs.ByItems.{IsCommitted}
use Rattle.uses_session.specs.Alone.{AreLabelled}
use Rattle.rep_session.specs.declared.finished.Finished.{Finished}
use Rattle.rep_session.specs.declared.finished.Finished.TheVariants.{ReadOnly, WriteSet}

-- the write that lets this row, or none, stand under the key
abbrev pub written_as : Key → Option (List ℕ) → Write
written_as key row = record { key = key; value = row }

-- the rows with these two swapped
abbrev pub swapped : (Key → Option (List ℕ)) → Key → Key → Key → Option (List ℕ)
swapped rows one other key = if key_eq other key then rows one else if key_eq one key then rows other else rows key

-- What a swap under these labels ended with: a write set with the labels. Where that is an item of an order that the rows are of, and
-- commits, the item swaps both rows, from what stood there before it.
pub record Swaps (are_of : Setting → Order → Type 0) (source trx : ℕ) (one other : Key) (ends : Result Finished Refusal) : Type 0 where
  pub labels : AreLabelled source trx ends
  pub committed : (p : Setting) (L : Order) (n : ℕ) (w : Transaction) → are_of p L → item L n ≡ OfWriteSet w → ends ≡ Ok (WriteSet w) → IsCommitted p L n →
      (key : Key) → read p L key n ≡ swapped (λ k. read p L k (n - 1)) one other key
  pub written : ends ≡ Ok ReadOnly → ⊥
