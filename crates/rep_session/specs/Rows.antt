-- The rows of a replica, as a session reads them.
use Rattle.std.specs.Prelude.{◌≡◌, ℕ, List, Option, Result, Ok}
use Rattle.rep_types.specs.declared.key.Key.{Key}
use Rattle.rep_types.specs.declared.refusal.Refusal.{Refusal}
use Rattle.rep_types.specs.Settings.{Setting}
use Rattle.rep_types.specs.Order.{Order, read}
use Rattle.rep_disk.specs.declared.disk.Disk.{Ghosts}
use Rattle.rep_replica.specs.Replicas.{Replica, facts_of}
use Rattle.rep_replica.specs.Reading.{IsRead, HasRowsOf}

-- the number of rows of each table
abbrev pub tables_of : {D : Type 0} → Ghosts D → Replica D → List ℕ
tables_of g r = (facts_of g r).setting.rows

-- the front is the durable position, and asking for it changes nothing
abbrev pub IsFront : {D : Type 0} → Ghosts D → Replica D → ℕ → Replica D → Type 0
IsFront g a s b = (s ≡ (facts_of g a).durable) × (b ≡ a)

-- What a read gives: what the replica answers, on any device. On an honest one it forgets nothing of the orders whose rows the replica
-- has, and a row that is answered is that of each of these.
pub record Reads {D : Type 0} (g : Ghosts D) (a : Replica D) (key : Key) (s : ℕ) (answer : Result (Option (List ℕ)) Refusal) (b : Replica D) : Type 0 where
  pub is_read : IsRead g a key s answer b
  pub forgets : (p : Setting) (L : Order) → HasRowsOf g b p L → HasRowsOf g a p L
  pub rows : (x : Option (List ℕ)) (p : Setting) (L : Order) → answer ≡ Ok x → HasRowsOf g b p L → x ≡ read p L key s
