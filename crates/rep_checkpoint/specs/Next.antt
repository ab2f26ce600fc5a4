-- The next base, on its way.
use Rattle.std.specs.Prelude.{ℕ, ◌==◌, Bool, List}
use Rattle.std.specs.List.{list_any}
use Rattle.rep_types.specs.Windows.{Window as WindowOf}
use Rattle.rep_layout.specs.declared.super_body.SuperBody.{SuperBody}
use Rattle.rep_layout.specs.Windows.{Window as WindowBody, beside}

-- what a checkpoint makes the base: its superblock, the window at its position, and the pages that are left to be flushed for it
pub record Next : Type 0 where
  pub super : SuperBody
  pub window : WindowOf
  pub left : List ℕ

-- whether a page is one of these
abbrev pub is_in : List ℕ → ℕ → Bool
is_in pages page = list_any (λ (p : ℕ). p == page) pages

-- the window that is written beside the superblock
abbrev pub window_of : Next → WindowBody
window_of next = beside next.super next.window
