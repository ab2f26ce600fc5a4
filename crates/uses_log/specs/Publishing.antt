-- What a body that is put into a cell comes to.
use Rattle.std.specs.Prelude.{◌≡◌, ◌⊎◌, ℕ, List, None, Some, Result, OnOk}
use Rattle.rep_disk.specs.History.{History}
use Rattle.rep_disk.specs.Moments.{LeavesOnly}
use Rattle.rep_layout.specs.declared.place.Layout.{Layout}
use Rattle.rep_layout.specs.declared.place.Place.{Place}
use Rattle.rep_cells.specs.Readings.{IsPlace, Reading, reading_of}
use Rattle.rep_cells.specs.States.{States, Closed, Opened, Allows, synced}
use Rattle.rep_cells.specs.Known.{Assigns}

-- The cell reads as nothing or as one of these bodies, and every other place as its state allows.
pub record ReadsAsOneOf (l : Layout) (s : States) (cell : Place) (IsOne : List ℕ → Type 0) (r : Reading) : Type 0 where
  pub there : (r cell ≡ None) ⊎ ((body : List ℕ) × IsOne body × (r cell ≡ Some body))
  pub elsewhere : (place : Place) → IsPlace l place → (place ≡ cell → ⊥) → Allows (s place) (r place)

-- Where it succeeds the body stands in the cell, and all else is stable. At every moment within, also where it failed, the
-- cell reads as nothing or as one of these bodies, and every other place as it was allowed to.
pub record Publishes {T E : Type 0} (l : Layout) (old new : History) (s : States) (cell : Place) (body : List ℕ) (IsOne : List ℕ → Type 0) (result : Result T E) : Type 0 where
  pub done : OnOk result ((t : States) × Assigns l new t × (t cell ≡ Opened body) × ((place : Place) → (place ≡ cell → ⊥) → t place ≡ synced (s place)))
  pub moments : LeavesOnly old new (λ image. ReadsAsOneOf l s cell IsOne (reading_of l image))

-- The cell is closed, and all else is stable.
pub record IsCleared (l : Layout) (new : History) (s : States) (cell : Place) : Type 0 where
  pub states : States
  pub assigns : Assigns l new states
  pub there : states cell ≡ Closed
  pub elsewhere : (place : Place) → (place ≡ cell → ⊥) → states place ≡ synced (s place)
