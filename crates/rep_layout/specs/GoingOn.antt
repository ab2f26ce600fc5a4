-- How the windows of an order go on as windows that a disk can hold.
use Rattle.std.specs.Prelude.{◌≡◌, ℕ, ◌+◌, ◌<◌, ◌^◌, true, []}
use Rattle.rep_types.specs.declared.item.Item.{Item}
use Rattle.rep_types.specs.declared.item.Item.TheVariants.{WriteSet}
use Rattle.rep_types.specs.Settings.{Setting, is_setting}
use Rattle.rep_types.specs.Items.{IsWithin}
use Rattle.rep_types.specs.Transactions.{Transaction}
use Rattle.rep_types.specs.Windows.{Window as Kept, fixed}
use Rattle.rep_types.specs.Order.{window_after}
use Rattle.rep_layout.specs.declared.format.Format.TheVariants.{One, Two}
use Rattle.rep_layout.specs.Windows.{window, IsWindowAt, IsWindowBody}

-- The windows of an order can be written: the first one is one that a disk can hold, and behind such a window each item makes another,
-- whether it is a write set or changes the size; a write set leaves a window fixed whose size was the same from the first item on. Format 2 tells each of them where number and position fit; format 1 those whose size
-- was the same from the first item on.
pub record WindowsGoOn : Type 0 where
  pub first : (p : Setting) → is_setting p ≡ true → (position : ℕ) → IsWindowAt p position (fixed p.window position [])
  pub next : (p : Setting) (position : ℕ) (v : Kept) (i : Item) → IsWithin i → IsWindowAt p position v → IsWindowAt p (position + 1) (window_after p position v i)
  pub same : (p : Setting) (position : ℕ) (v : Kept) (w : Transaction) → v ≡ fixed p.window position v.entries
      → window_after p position v (WriteSet w) ≡ fixed p.window (position + 1) (window_after p position v (WriteSet w)).entries
  pub body : (p : Setting) (number position : ℕ) (v : Kept) → number < 2 ^ 64 → position < 2 ^ 64 → IsWindowAt p position v → IsWindowBody p (window Two number position v)
  pub old : (p : Setting) (number position : ℕ) (v : Kept) → number < 2 ^ 64 → position < 2 ^ 64 → IsWindowAt p position v → v ≡ fixed p.window position v.entries
      → IsWindowBody p (window One number position v)
