-- What follows from the states.
use Rattle.std.specs.Prelude.{◌≡◌, ◌≤◌, List, [], ℕ, length, Option, Result}
use Rattle.rep_disk.specs.declared.disk.DiskFault.{DiskFault}
use Rattle.rep_disk.specs.History.{History, seen, stable, pending, IsImage}
use Rattle.rep_disk.specs.Moments.{LeavesOnly}
use Rattle.rep_layout.specs.declared.place.Layout.{Layout}
use Rattle.rep_layout.specs.declared.place.Place.{Place}
use Rattle.rep_layout.specs.Places.{need_of}
use Rattle.rep_cells.specs.Readings.{IsPlace, body_of, reading_of}
use Rattle.rep_cells.specs.States.{State, States, Filled, Allows, Allowed, Shows, synced, Moves, Closed, closing}
use Rattle.rep_cells.specs.Known.{Assigns, found}
use Rattle.rep_cells.specs.Calls.{Reaches}

-- In every image each place reads as its state allows.
abbrev pub ImagesReadAsAllowed : Type 0
ImagesReadAsAllowed = (l : Layout) (h : History) (s : States) (image : List ℕ) → Assigns l h s → IsImage h image → Allowed l s (reading_of l image)

-- Each place reads as its state shows.
abbrev pub PlacesReadAsShown : Type 0
PlacesReadAsShown = (l : Layout) (h : History) (s : States) (place : Place) → Assigns l h s → IsPlace l place → Shows (s place) (reading_of l (seen h) place)

-- A filled cell's body stands in every image, though its gate is closed.
abbrev pub FilledBodiesStand : Type 0
FilledBodiesStand = (l : Layout) (h : History) (s : States) (place : Place) (body image : List ℕ) → Assigns l h s → IsPlace l place → s place ≡ Filled body → IsImage h image → body_of l place image ≡ body

-- At each moment within a call each place reads as the states during it allow; so it is over several calls, since what
-- each leaves composes.
abbrev pub MomentsReadAsAllowed : Type 0
MomentsReadAsAllowed = (l : Layout) (old new : History) (during after : States) (result : Result (Unit {0}) DiskFault) → Reaches l old new during after result → LeavesOnly old new (λ image. Allowed l during (reading_of l image))

-- For each step of a place there are the states after it.
abbrev pub StatesMove : Type 0
StatesMove = (s : States) (place : Place) (step : State → State) → (t : States) × Moves s t place step

-- On a device on which nothing is pending each place is in the state that its bytes show, in every layout that it has room for.
abbrev pub FoundStatesStand : Type 0
FoundStatesStand = (l : Layout) (h : History) → need_of l ≤ length (stable h) → pending h ≡ [] → Assigns l h (found l (seen h))

-- A sync adds nothing to what a place may read as, and a second one changes nothing. Behind a closed gate that was written it leaves
-- the cell closed, whatever was known of it.
pub record SyncsNarrow : Type 0 where
  pub narrows : (state : State) (reading : Option (List ℕ)) → Allows (synced state) reading → Allows state reading
  pub again : (state : State) → synced (synced state) ≡ synced state
  pub closes : (state : State) → synced (closing state) ≡ Closed
