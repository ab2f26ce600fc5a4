-- What the states of a checkpoint's places are.
use Rattle.std.specs.Prelude.{◌≡◌, ◌⊎◌, ℕ, ◌<◌, Bool, true, false, List, None}
use Rattle.rep_types.specs.declared.key.Key.{Key}
use Rattle.rep_types.specs.Settings.{IsRow}
use Rattle.rep_types.specs.Order.{State}
use Rattle.rep_layout.specs.declared.super_body.SuperBody.{SuperBody}
use Rattle.rep_layout.specs.declared.page_state.PageState.TheVariants.{Nowhere, In}
use Rattle.rep_layout.specs.declared.place.Side.{Side}
use Rattle.rep_layout.specs.declared.place.Slot.{Slot}
use Rattle.rep_layout.specs.declared.place.Place.TheVariants.{Super, Window, Page}
use Rattle.rep_layout.specs.Places.{side_of}
use Rattle.rep_layout.specs.Rows.{row_place}
use Rattle.rep_layout.specs.Supers.{super_bytes}
use Rattle.rep_layout.specs.Windows.{window_bytes, IsWindowBody, beside}
use Rattle.rep_cells.specs.States.{State as StateOf, States, Closed, Filling, Filled, Opening, Opened, Closing, Pending, Stable}
use Rattle.rep_pages.specs.Slots.{state_of_page}
use Rattle.rep_image.specs.Bases.{IsSuperAt, IsPageOf, HaveContent}
use Rattle.rep_checkpoint.specs.declared.stage.Part.{Part}
use Rattle.rep_checkpoint.specs.declared.stage.Part.TheVariants.{Flushing, Saving, Ready, SuperFilling, SuperFilled, SuperOpening}
use Rattle.rep_checkpoint.specs.declared.stage.Stage.{Stage}
use Rattle.rep_checkpoint.specs.declared.stage.Stage.TheVariants.{Off, Toward, Retiring}
use Rattle.rep_checkpoint.specs.Next.{Next, is_in, window_of}
use Rattle.rep_checkpoint.specs.Standing.{Standing, spare_side, IsNext}

-- ---- the base

-- A base stands: its superblock is open, and names this state, whose window and pages are stable.
pub record IsBase (size : ℕ) (b : SuperBody) (x : State) (s : States) : Type 0 where
  pub is_super : IsSuperAt size (side_of b.number) b
  pub position : x.position ≡ b.position
  pub opened : s (Super (side_of b.number)) ≡ Opened (super_bytes b)
  pub saved : s (Window (side_of b.number)) ≡ Stable (window_bytes (beside b x.kept))
  pub is_window : IsWindowBody b.params (beside b x.kept)
  pub content : HaveContent b (λ number slot body. s (Page number slot) ≡ Stable body) x.content

-- ---- the next base

-- The body was written, and may be stable.
abbrev pub IsWritten : List ℕ → StateOf → Type 0
IsWritten body state = (state ≡ Pending body) ⊎ (state ≡ Stable body)

-- Of the pages that it has in a slot those that aren't left were written, and are of this state.
pub record IsFlushing (next : Next) (y : State) (s : States) : Type 0 where
  pub pages : (number : ℕ) (slot : Slot) → is_in next.left number ≡ false → state_of_page next.super number ≡ In slot
      → (body : List ℕ) × IsWritten body (s (Page number slot)) × IsPageOf next.super number y.content body
  pub absent : (key : Key) → IsRow next.super.params.rows key → state_of_page next.super (row_place next.super.params.rows key).page ≡ Nowhere → y.content key ≡ None
  pub outside : (key : Key) → (IsRow next.super.params.rows key → ⊥) → y.content key ≡ None

-- All were, and so was the window.
pub record IsSaving (side : Side) (next : Next) (y : State) (s : States) : Type 0 where
  pub window : IsWritten (window_bytes (window_of next)) (s (Window side))
  pub content : HaveContent next.super (λ number slot body. IsWritten body (s (Page number slot))) y.content

-- All is stable.
pub record IsSaved (side : Side) (next : Next) (y : State) (s : States) : Type 0 where
  pub window : s (Window side) ≡ Stable (window_bytes (window_of next))
  pub content : HaveContent next.super (λ number slot body. s (Page number slot) ≡ Stable body) y.content

-- how far window and pages are
abbrev pub IsFar : Part → Side → Next → State → States → Type 0
IsFar Flushing side next y s = IsFlushing next y s
IsFar Saving side next y s = IsSaving side next y s
IsFar Ready side next y s = IsSaved side next y s
IsFar SuperFilling side next y s = IsSaved side next y s
IsFar SuperFilled side next y s = IsSaved side next y s
IsFar SuperOpening side next y s = IsSaved side next y s

-- how far its superblock's cell is
abbrev pub cell_in : Part → List ℕ → StateOf
cell_in Flushing body = Closed
cell_in Saving body = Closed
cell_in Ready body = Closed
cell_in SuperFilling body = Filling body
cell_in SuperFilled body = Filled body
cell_in SuperOpening body = Opening body

-- The next base is as far as this, and names this state.
pub record IsToward (base : SuperBody) (next : Next) (part : Part) (y : State) (s : States) : Type 0 where
  pub follows : IsNext base next
  pub position : y.position ≡ next.super.position
  pub kept : y.kept ≡ next.window
  pub far : IsFar part (spare_side base) next y s
  pub cell : s (Super (spare_side base)) ≡ cell_in part (super_bytes next.super)

-- ---- the superblock before

-- how far its cell is
abbrev pub retiring : Bool → List ℕ → StateOf
retiring false body = Opened body
retiring true body = Closing body

-- A superblock of a lesser number, which isn't closed.
pub record IsRetiring (size : ℕ) (base : SuperBody) (written : Bool) (s : States) : Type 0 where
  pub before : SuperBody
  pub is_super : IsSuperAt size (spare_side base) before
  pub lesser : before.number < base.number
  pub cell : s (Super (spare_side base)) ≡ retiring written (super_bytes before)

-- ---- both

-- what stands beside the base
abbrev pub StandsBeside : ℕ → SuperBody → Stage → State → States → Type 0
StandsBeside size base Off y s = s (Super (spare_side base)) ≡ Closed
StandsBeside size base (Toward next part) y s = IsToward base next part y s
StandsBeside size base (Retiring written) y s = IsRetiring size base written s

-- The states are those of a checkpoint that stands so, on a device of this size: the base stands and names x, and what stands
-- beside it is as far as the stage says, the next base naming y where there is one.
pub record CheckpointIs (size : ℕ) (c : Standing) (x y : State) (s : States) : Type 0 where
  pub base : IsBase size c.base x s
  pub beside : StandsBeside size c.base c.stage y s
