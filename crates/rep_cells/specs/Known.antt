-- How states rest on what was asked of the device.
use Rattle.std.specs.Prelude.{◌≡◌, ℕ, zero, suc, ◌≤◌, Bool, true, false, List, length, Option, None, Some}
use Rattle.rep_disk.specs.Bytes.{Untouched}
use Rattle.rep_disk.specs.History.{History, seen, stable, pending, failed}
use Rattle.rep_layout.specs.declared.place.Layout.{Layout}
use Rattle.rep_layout.specs.declared.place.Place.{Place}
use Rattle.rep_layout.specs.Places.{body_len, gate_len, offset_of, gate_of, need_of}
use Rattle.rep_cells.specs.Readings.{IsPlace, is_open, body_of, reading_of}
use Rattle.rep_cells.specs.States.{State, States, Unknown, Shutting, Closed, Filling, Filled, Opening, Opened, Closing, Pending, Stable, IsSure}

-- The gate reads as open, or as closed.
abbrev pub GateIs : Layout → History → Place → Bool → Type 0
GateIs l h place shows = is_open l place (seen h) ≡ shows

-- The same, and it is stable.
abbrev pub GateStays : Layout → History → Place → Bool → Type 0
GateStays l h place shows = Untouched (pending h) (gate_of l place) (gate_len place) × (is_open l place (stable h) ≡ shows)

-- The body reads as this.
abbrev pub BodyIs : Layout → History → Place → List ℕ → Type 0
BodyIs l h place body = body_of l place (seen h) ≡ body

-- The same, and it is stable.
abbrev pub BodyStays : Layout → History → Place → List ℕ → Type 0
BodyStays l h place body = Untouched (pending h) (offset_of l place) (body_len place) × (body_of l place (stable h) ≡ body)

-- What a state says.
abbrev pub Known : Layout → History → Place → State → Type 0
Known l h place Unknown = Unit {0}
Known l h place Shutting = GateIs l h place false
Known l h place Closed = GateStays l h place false
Known l h place (Filling body) = GateStays l h place false × BodyIs l h place body
Known l h place (Filled body) = GateStays l h place false × BodyStays l h place body
Known l h place (Opening body) = GateIs l h place true × BodyStays l h place body
Known l h place (Opened body) = GateStays l h place true × BodyStays l h place body
Known l h place (Closing body) = GateIs l h place false × BodyStays l h place body
Known l h place (Pending body) = (gate_len place ≡ 0) × BodyIs l h place body
Known l h place (Stable body) = (gate_len place ≡ 0) × BodyStays l h place body

-- No write that failed lies in the place's body.
abbrev pub IsBodyReadable : Layout → History → Place → Type 0
IsBodyReadable l h place = Untouched (failed h) (offset_of l place) (body_len place)

-- No write that failed lies in the place.
abbrev pub IsReadable : Layout → History → Place → Type 0
IsReadable l h place = IsBodyReadable l h place × Untouched (failed h) (gate_of l place) (gate_len place)

-- The states are those of a device with this history: it has room for the places, each state says what is so, and a place whose
-- state is sure can be read. Of a device of unknown past every state is Unknown.
pub record Assigns (l : Layout) (h : History) (s : States) : Type 0 where
  pub fits : need_of l ≤ length (stable h)
  pub places : (place : Place) → IsPlace l place → Known l h place (s place)
  pub readable : (place : Place) → IsPlace l place → IsSure (s place) → IsReadable l h place

-- what a gate of n bytes and what it reads as say of a place that is stable
abbrev pub found_as : ℕ → Option (List ℕ) → State
found_as n None = Closed
found_as zero (Some body) = Stable body
found_as (suc n) (Some body) = Opened body

-- what is known of a device on which nothing is pending, from its bytes
abbrev pub found : Layout → List ℕ → States
found l bytes place = found_as (gate_len place) (reading_of l bytes place)
