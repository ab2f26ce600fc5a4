-- What is digested tells what it is of.
use Rattle.std.specs.Prelude.{◌≡◌, ℕ, ◌<◌, ◌≤◌, ◌^◌, List, length}
use Rattle.std.specs.List.{AllByRecursion}
use Rattle.rep_types.specs.declared.key.Key.{Key}
use Rattle.rep_types.specs.Settings.{IsRow}
use Rattle.rep_types.specs.Order.{State}
use Rattle.rep_types.specs.Sums.{sum_bytes}

-- The clusters and the positions are the same, and so is each row of the schema.
pub record AreSame (schema uuid other : List ℕ) (S T : State) : Type 0 where
  pub cluster : uuid ≡ other
  pub position : S.position ≡ T.position
  pub rows : (key : Key) → IsRow schema key → S.content key ≡ T.content key

-- Where the same is digested of two states of one schema, they are the same: so no two states that differ in a row have one sum, but where
-- SHA-256 has one digest for different bytes. A UUID has 16 bytes, a position is a number of 8 bytes, and a row of a table one of 4.
abbrev pub SumsTellStates : Type 0
SumsTellStates = (schema uuid other : List ℕ) (S T : State) → AllByRecursion (λ (n : ℕ). n ≤ 2 ^ 32) schema → length uuid ≡ 16 → length other ≡ 16 → S.position < 2 ^ 64 → T.position < 2 ^ 64
    → sum_bytes uuid schema S ≡ sum_bytes other schema T → AreSame schema uuid other S T
