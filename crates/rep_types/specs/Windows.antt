-- What certification keeps of an order: a window over its committed write sets.
use Rattle.std.specs.Prelude.{ℕ, ◌+◌, ◌-◌, Bool, nat_le, ◌&&◌, List, max}
use Rattle.rep_types.specs.declared.limits.TheConstants.{MAX_WINDOW}
use Rattle.rep_types.specs.Entries.{Entry}

-- The limits of a window's size (this project): 1 to 256 seqnos.
abbrev pub is_window_size : ℕ → Bool
is_window_size size = nat_le 1 size && nat_le size MAX_WINDOW

-- A window (this project): how many seqnos it spans, the least seqno that it can hold, and the committed write sets that it holds
pub record Window : Type 0 where
  pub size : ℕ
  pub floor : ℕ
  pub entries : List Entry

-- The window of these entries at a position, where its size was the same from the first item on.
abbrev pub fixed : ℕ → ℕ → List Entry → Window
fixed size position entries = record { size = size; floor = max 1 (position + 1 - size); entries = entries }
