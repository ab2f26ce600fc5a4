-- What formatting writes, and what it leaves.
use Rattle.std.specs.Prelude.{◌≡◌, ℕ, ◌<◌, List, [], replicate, Option, None, Some}
use Rattle.rep_disk.specs.History.{History, IsImage}
use Rattle.rep_types.specs.Settings.{Setting, pages_of}
use Rattle.rep_types.specs.Order.{Order}
use Rattle.rep_layout.specs.declared.format.Format.TheVariants.{Two}
use Rattle.rep_layout.specs.declared.super_body.SuperBody.{SuperBody}
use Rattle.rep_layout.specs.declared.page_state.PageState.TheVariants.{Nowhere}
use Rattle.rep_layout.specs.declared.place.Side.{Side}
use Rattle.rep_layout.specs.declared.place.Side.TheVariants.{A, B}
use Rattle.rep_layout.specs.declared.place.Place.TheVariants.{Super, Window, Log}
use Rattle.rep_layout.specs.Windows.{Window as WindowBody, window}
use Rattle.rep_cells.specs.States.{State, States, Closed, synced}
use Rattle.rep_steps.specs.Images.{Meaning, StandsFor}
use Rattle.rep_engine.specs.Meanings.{Means}

-- the state UUID of a node that is formatted with this one: the nil UUID, where it is given none
abbrev pub uuid_of : Option (List ℕ) → List ℕ
uuid_of None = replicate 16 0
uuid_of (Some uuid) = uuid

-- Every image of a device with this history stands for the order.
abbrev pub ImagesStandFor : List ℕ → Setting → Order → History → Type 0
ImagesStandFor uuid p L h = (image : List ℕ) → IsImage h image → (m : Meaning) × Means image m × StandsFor uuid p L m

-- the superblock of a node to which nothing was delivered: of number 0, position 0 and start 0, with no page in a slot
abbrev pub first_super : List ℕ → Setting → SuperBody
first_super uuid p = record { format = Two; number = 0; uuid = uuid; params = p; position = 0; start = 0; pages = record { items = replicate (pages_of p.rows) Nowhere } }

-- the window beside it, which holds nothing
abbrev pub first_window : Setting → WindowBody
first_window p = window Two 0 0 (record { size = p.window; floor = 1; entries = [] })

-- ---- the states on the way

-- Both superblocks and the first cells of the log, so many of them, are closed from the next successful sync on.
pub record WillClose (cells : ℕ) (s : States) : Type 0 where
  pub supers : (side : Side) → synced (s (Super side)) ≡ Closed
  pub log : (i : ℕ) → i < cells → synced (s (Log i)) ≡ Closed

-- They are.
pub record AreClosed (cells : ℕ) (s : States) : Type 0 where
  pub supers : (side : Side) → s (Super side) ≡ Closed
  pub log : (i : ℕ) → i < cells → s (Log i) ≡ Closed

-- The first superblock and the first window are so far, and every other cell is closed.
pub record HasFirst (cells : ℕ) (super window : State) (s : States) : Type 0 where
  pub first : s (Super A) ≡ super
  pub second : s (Super B) ≡ Closed
  pub beside : s (Window A) ≡ window
  pub log : (i : ℕ) → i < cells → s (Log i) ≡ Closed
