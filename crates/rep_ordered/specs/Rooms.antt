-- Room that lies by until a lock is closed.
use Rattle.std.specs.Prelude.{◌≡◌, ℕ, ◌≤◌, [], ◌∷◌, vec_capacity}
use Rattle.std.specs.declared.vec.Vec.{Vec}
use mathlib.Core.Option.{some}
use Rattle.atomic_table.specs.Table.{State}

-- in the table's one slot lies an empty list that has room for so many values
abbrev pub IsLaid : {X A : Type 0} → ℕ → State (Vec X A) (Unit {0}) → Type 0
IsLaid {X} {A} count s = (values : Vec X A) × (s.homes ≡ some values ∷ []) × (values.items ≡ []) × (count ≤ vec_capacity values)
