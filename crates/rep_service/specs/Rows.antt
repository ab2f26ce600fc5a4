-- Rows that are read at one position.
use Rattle.std.specs.Prelude.{◌≡◌, ℕ, List, map, Result, Ok, Err}
use Rattle.rep_types.specs.declared.key.Key.{Key}
use Rattle.rep_types.specs.declared.refusal.Refusal.{Refusal}
use Rattle.rep_types.specs.Settings.{Setting}
use Rattle.rep_types.specs.Order.{Order, read}
use Rattle.rep_disk.specs.declared.disk.Disk.{Ghosts}
use Rattle.rep_replica.specs.Replicas.{Replica}
use Rattle.rep_sum.specs.Sums.{RowRead, AreGiven, keys_read, IsRefusedAt}

-- the rows of these keys in an order's state at this position
abbrev pub rows_of : Setting → Order → List Key → ℕ → List RowRead
rows_of p L keys at = map (λ (key : Key). (key, read p L key at)) keys

-- The rows of these keys were read at the position, one after another, and each was given; or one was refused, and those before it were given.
abbrev pub ReadsRows : {D : Type 0} → Ghosts D → ℕ → List Key → Replica D → Result (List RowRead) Refusal → Replica D → Type 0
ReadsRows g at keys old (Ok rows) new = (keys_read rows ≡ keys) × AreGiven g at old rows new
ReadsRows g at keys old (Err e) new = IsRefusedAt g at keys old e new
