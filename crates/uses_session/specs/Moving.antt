-- Rows that are moved from one key to another.
use Rattle.std.specs.Prelude.{◌≡◌, ℕ, ◌-◌, if◌then◌else◌, List, Option, None, Result, Ok}
use Rattle.rep_types.specs.declared.key.Key.{Key}
use Rattle.rep_types.specs.declared.refusal.Refusal.{Refusal}
use Rattle.rep_types.specs.Keys.{key_eq}
use Rattle.rep_types.specs.Settings.{Setting}
use Rattle.rep_types.specs.declared.item.Item.TheVariants.{WriteSet as OfWriteSet}
use Rattle.rep_types.specs.Transactions.{Transaction}
use Rattle.rep_types.specs.Order.{Order, item, read}
use Rattle.rep_types.specs.ByItems.{IsCommitted}
use Rattle.uses_session.specs.Alone.{AreLabelled}
use Rattle.rep_session.specs.declared.finished.Finished.{Finished}
use Rattle.rep_session.specs.declared.finished.Finished.TheVariants.{ReadOnly, WriteSet}

-- the rows with the one row moved
abbrev pub moved : (Key → Option (List ℕ)) → Key → Key → Key → Option (List ℕ)
moved rows from to key = if key_eq to key then rows from else if key_eq from key then None else rows key

-- What a move under these labels ended with, that began with rows at this one. Where it is a write set, that has the labels. Where this is
-- an item of an order that the rows are of at the end, and commits, the item moves the row, from what stood there before it. Where there
-- is none, the row was not there at the front at which the move began.
pub record Moves {S : Type 0} (front_gives : S → ℕ → S → Type 0) (are_of : Setting → Order → Type 0) (start : S) (source trx : ℕ) (from to : Key) (ends : Result Finished Refusal) : Type 0 where
  pub labels : AreLabelled source trx ends
  pub committed : (p : Setting) (L : Order) (n : ℕ) (w : Transaction) → are_of p L → item L n ≡ OfWriteSet w → ends ≡ Ok (WriteSet w) → IsCommitted p L n →
      (key : Key) → read p L key n ≡ moved (λ k. read p L k (n - 1)) from to key
  pub nothing : ends ≡ Ok ReadOnly → (s : ℕ) × ((behind : S) × (front_gives start s behind × ((p : Setting) (L : Order) → are_of p L → read p L from s ≡ None)))
