-- What is known of a place, whatever a stop may leave of it.
use Rattle.std.specs.Prelude.{◌≡◌, ◌⊎◌, List, ℕ, Option, None, Some, option_map}
use Rattle.std.specs.Option.{unwrap_or}
use Rattle.rep_layout.specs.declared.place.Layout.{Layout}
use Rattle.rep_layout.specs.declared.place.Place.{Place}
use Rattle.rep_cells.specs.Readings.{IsPlace, Reading}

pub data State : Type 0 where
  -- nothing is known
  Unknown : State
  -- a cell that nothing was known of, over which a closed gate was written
  Shutting : State
  -- the gate is closed, and stable
  Closed : State
  -- the same, and this body was written
  Filling : List ℕ → State
  -- the same, and the body is stable
  Filled : List ℕ → State
  -- the body is stable, and the open gate was written
  Opening : List ℕ → State
  -- both are stable
  Opened : List ℕ → State
  -- the body is stable, and the closed gate was written
  Closing : List ℕ → State
  -- an area that this body was written to
  Pending : List ℕ → State
  -- the same, and it is stable
  Stable : List ℕ → State

-- what is known of each place
abbrev pub States : Type 0
States = Place → State

-- What a stop may leave: what a place may read as in the images of the moment.
abbrev pub Allows : State → Option (List ℕ) → Type 0
Allows Unknown reading = Unit {0}
Allows Shutting reading = Unit {0}
Allows Closed reading = reading ≡ None
Allows (Filling body) reading = reading ≡ None
Allows (Filled body) reading = reading ≡ None
Allows (Opening body) reading = (reading ≡ None) ⊎ (reading ≡ Some body)
Allows (Opened body) reading = reading ≡ Some body
Allows (Closing body) reading = (reading ≡ None) ⊎ (reading ≡ Some body)
Allows (Pending body) reading = Unit {0}
Allows (Stable body) reading = reading ≡ Some body

-- What a place reads as while nothing has failed.
abbrev pub Shows : State → Option (List ℕ) → Type 0
Shows Unknown reading = Unit {0}
Shows Shutting reading = reading ≡ None
Shows Closed reading = reading ≡ None
Shows (Filling body) reading = reading ≡ None
Shows (Filled body) reading = reading ≡ None
Shows (Opening body) reading = reading ≡ Some body
Shows (Opened body) reading = reading ≡ Some body
Shows (Closing body) reading = reading ≡ None
Shows (Pending body) reading = reading ≡ Some body
Shows (Stable body) reading = reading ≡ Some body

-- In these states no write in the place can have failed since the last successful sync: what is known of it rests on what was
-- stable then, and on writes that succeeded.
abbrev pub IsSure : State → Type 0
IsSure Unknown = ⊥
IsSure Shutting = ⊥
IsSure Closed = Unit {0}
IsSure (Filling body) = Unit {0}
IsSure (Filled body) = Unit {0}
IsSure (Opening body) = Unit {0}
IsSure (Opened body) = Unit {0}
IsSure (Closing body) = Unit {0}
IsSure (Pending body) = ⊥
IsSure (Stable body) = Unit {0}

-- Each place reads as its state allows.
abbrev pub Allowed : Layout → States → Reading → Type 0
Allowed l s r = (place : Place) → IsPlace l place → Allows (s place) (r place)

-- what a successful sync makes of it
abbrev pub synced : State → State
synced Unknown = Unknown
synced Shutting = Closed
synced Closed = Closed
synced (Filling body) = Filled body
synced (Filled body) = Filled body
synced (Opening body) = Opened body
synced (Opened body) = Opened body
synced (Closing body) = Closed
synced (Pending body) = Stable body
synced (Stable body) = Stable body

-- What writing a body makes of a cell: only over a gate that is closed and stable is the cell still closed in every image.
abbrev pub filling : List ℕ → State → State
filling body Unknown = Unknown
filling body Shutting = Shutting
filling body Closed = Filling body
filling body (Filling before) = Filling body
filling body (Filled before) = Filling body
filling body (Opening before) = Unknown
filling body (Opened before) = Unknown
filling body (Closing before) = Shutting
filling body (Pending before) = Unknown
filling body (Stable before) = Unknown

-- the stable body of a cell, where there is one
abbrev pub stable_in : State → Option (List ℕ)
stable_in (Filled body) = Some body
stable_in (Opening body) = Some body
stable_in (Opened body) = Some body
stable_in (Closing body) = Some body
stable_in state = None

-- What writing the open gate makes of a cell: only over a stable body is it known what the cell then reads as.
abbrev pub opening : State → State
opening state = unwrap_or (option_map Opening (stable_in state)) Unknown

-- What writing the closed gate makes of a cell. A gate that was closed is so no more in every image: this write may tear.
abbrev pub closing : State → State
closing state = unwrap_or (option_map Closing (stable_in state)) Shutting

-- what writing a body makes of an area
abbrev pub writing : List ℕ → State → State
writing body before = Pending body

-- One place's state moves, the others stay.
pub record Moves (s t : States) (place : Place) (step : State → State) : Type 0 where
  pub there : t place ≡ step (s place)
  pub elsewhere : (other : Place) → (other ≡ place → ⊥) → t other ≡ s other

-- Each place's state is what a successful sync makes of it.
abbrev pub Syncs : States → States → Type 0
Syncs s t = (place : Place) → t place ≡ synced (s place)
