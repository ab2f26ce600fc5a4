-- What each call does to the device and to what is known of its places.
use Rattle.std.specs.Prelude.{◌≡◌, ℕ, ◌+◌, ◌≤◌, List, length, Option, Result, IfOk, OnOk, OnErr, replicate, ◌∷◌}
use Rattle.rep_disk.specs.declared.disk.Disk.{Ghosts}
use Rattle.rep_disk.specs.History.{History, Wrote, seen, IsImage}
use Rattle.rep_disk.specs.Calls.{MaySpoil}
use Rattle.rep_disk.specs.Moments.{LeavesOnly}
use Rattle.rep_layout.specs.declared.place.Layout.{Layout}
use Rattle.rep_layout.specs.declared.place.Place.{Place}
use Rattle.rep_layout.specs.Places.{offset_of, end_of}
use Rattle.rep_cells.specs.Readings.{IsPlace, body_of, reading_of}
use Rattle.rep_cells.specs.States.{State, States, Unknown, Opened, Allows, Shows, IsSure, Allowed, Moves, Syncs}
use Rattle.rep_cells.specs.Known.{Assigns, IsBodyReadable, IsReadable}

-- a gate whose first byte is this one
abbrev pub gate : ℕ → List ℕ
gate first = first ∷ replicate 511 0

-- So many bytes from this offset on lie within a place, its body or its gate.
pub record IsWithin (l : Layout) (place : Place) (at n : ℕ) : Type 0 where
  pub there : IsPlace l place
  pub begins : offset_of l place ≤ at
  pub ends : at + n ≤ end_of l place

-- One write, within this place.
pub record WroteIn (l : Layout) (place : Place) (old new : History) : Type 0 where
  pub at : ℕ
  pub bytes : List ℕ
  pub within : IsWithin l place at (length bytes)
  pub is : new ≡ Wrote at bytes old

-- A write of these bytes at this offset, and of nothing else: a write that failed may leave any bytes there.
pub record Writes {T E : Type 0} (at : ℕ) (bytes : List ℕ) (old new : History) (result : Result T E) : Type 0 where
  pub done : OnOk result (new ≡ Wrote at bytes old)
  pub failed : OnErr result (MaySpoil at (length bytes) old new)

-- What a call comes to: where it succeeds, these states stand after it. In every image at its end, also where it failed,
-- and so at every moment within it, each place reads as the states during it allow.
pub record Reaches {T E : Type 0} (l : Layout) (old new : History) (during after : States) (result : Result T E) : Type 0 where
  pub ok : OnOk result (Assigns l new after)
  pub images : (image : List ℕ) → IsImage new image → Allowed l during (reading_of l image)
  pub moments : LeavesOnly old new (IsImage new)

-- Of one place nothing is known any more, and every other keeps its state.
pub record Loses (l : Layout) (h : History) (s : States) (place : Place) : Type 0 where
  pub states : States
  pub moves : Moves s states place (λ state. Unknown)
  pub assigns : Assigns l h states

-- A write in a place: there are states that this step makes of those before it, and they stand during the call and after it.
-- Where it fails, what was known of the place is lost.
pub record Stepped {T E : Type 0} (l : Layout) (old new : History) (s : States) (place : Place) (step : State → State) (result : Result T E) : Type 0 where
  pub after : States
  pub moves : Moves s after place step
  pub reaches : Reaches l old new after after result
  pub lost : OnErr result (Loses l new s place)

-- A sync: there are states that it makes of those before it. Those before it stand during the call, and where it fails after it
-- too. It adds nothing: each image after it might be left before, and each place might read before as it may now. And a further
-- sync changes no state.
pub record Settled {T E : Type 0} (l : Layout) (old new : History) (s : States) (result : Result T E) : Type 0 where
  pub after : States
  pub syncs : Syncs s after
  pub reaches : Reaches l old new s after result
  pub stay : OnErr result (Assigns l new s)
  pub fewer : (image : List ℕ) → IsImage new image → IsImage old image
  pub narrows : (place : Place) (reading : Option (List ℕ)) → Allows (after place) reading → Allows (s place) reading
  pub again : Syncs after after

-- On an honest device: a write of these bytes, and of nothing else.
abbrev pub WritesOnly : {D T E : Type 0} → Ghosts D → ℕ → List ℕ → D → D → Result T E → Type 0
WritesOnly g at bytes old new result = g.honest old → Writes at bytes (g.history old) (g.history new) result

-- On an honest device: what succeeded is one write, within this place.
abbrev pub WritesIn : {D T E : Type 0} → Ghosts D → Layout → Place → D → D → Result T E → Type 0
WritesIn g l place old new result = g.honest old → OnOk result (WroteIn l place (g.history old) (g.history new))

-- On an honest device: whatever the states were, one place takes this step.
abbrev pub StepsAt : {D T E : Type 0} → Ghosts D → Layout → Place → (State → State) → D → D → Result T E → Type 0
StepsAt g l place step old new result = g.honest old → (s : States) → Assigns l (g.history old) s → Stepped l (g.history old) (g.history new) s place step result

-- On an honest device: whatever the states were, a sync makes them stable.
abbrev pub Settles : {D T E : Type 0} → Ghosts D → Layout → D → D → Result T E → Type 0
Settles g l old new result = g.honest old → (s : States) → Assigns l (g.history old) s → Settled l (g.history old) (g.history new) s result

-- On an honest device: what is read where no write failed is what the place reads as.
abbrev pub ReadsPlace : {D T E : Type 0} → Ghosts D → Layout → Place → D → Result T E → (T → Option (List ℕ)) → Type 0
ReadsPlace g l place old result body_in = g.honest old → IsReadable l (g.history old) place → IfOk result (λ found. body_in found ≡ reading_of l (seen (g.history old)) place)

-- On an honest device: what is read is what the place's state shows, where that is sure.
abbrev pub ShowsPlace : {D T E : Type 0} → Ghosts D → Layout → Place → D → Result T E → (T → Option (List ℕ)) → Type 0
ShowsPlace g l place old result body_in = g.honest old → (s : States) → Assigns l (g.history old) s → IsSure (s place) → IfOk result (λ found. Shows (s place) (body_in found))

-- On an honest device: what is read where no write failed is the body that lies there.
abbrev pub ReadsBody : {D T E : Type 0} → Ghosts D → Layout → Place → D → Result T E → List ℕ → Type 0
ReadsBody g l place old result bytes = g.honest old → IsBodyReadable l (g.history old) place → OnOk result (bytes ≡ body_of l place (seen (g.history old)))

-- On an honest device: what is read of a cell that stands open is its body.
abbrev pub ReadsOpened : {D T E : Type 0} → Ghosts D → Layout → Place → D → Result T E → List ℕ → Type 0
ReadsOpened g l place old result bytes = g.honest old → (s : States) (body : List ℕ) → Assigns l (g.history old) s → s place ≡ Opened body → OnOk result (bytes ≡ body)
