-- What reading a device finds, part by part.
use Rattle.std.specs.Prelude.{◌≡◌, ◌⊎◌, ℕ, ◌+◌, ◌<◌, ◌≤◌, Bool, true, false, is_some, nat_lt, if◌then◌else◌, List, [], Option, None, Some, Result, Err}
use Rattle.rep_types.specs.declared.judged.Judged.{Judged}
use Rattle.rep_types.specs.declared.refusal.Part.{Part}
use Rattle.rep_types.specs.declared.refusal.Part.TheVariants.{Superblock}
use Rattle.rep_types.specs.declared.refusal.Refusal.{Refusal}
use Rattle.rep_types.specs.declared.refusal.Refusal.TheVariants.{OutOfMemory, DiskFault, NotFormatted, Corrupt}
use Rattle.rep_types.specs.Windows.{Window as WindowOf}
use Rattle.rep_disk.specs.declared.disk.Disk.{Ghosts}
use Rattle.rep_disk.specs.declared.disk.DiskFault.{DiskFault as Fault}
use Rattle.rep_disk.specs.Devices.{Calls, SameHistory}
use Rattle.rep_layout.specs.declared.super_body.SuperBody.{SuperBody}
use Rattle.rep_layout.specs.declared.page_state.PageState.TheVariants.{In}
use Rattle.rep_layout.specs.declared.place.Side.{Side}
use Rattle.rep_layout.specs.declared.place.Slot.{Slot}
use Rattle.rep_layout.specs.declared.place.Place.TheVariants.{Super, Page}
use Rattle.rep_layout.specs.Places.{side_of, layout_of}
use Rattle.rep_layout.specs.Supers.{IsNil, super_bytes}
use Rattle.rep_layout.specs.Windows.{window_bytes, IsWindowBody, beside}
use Rattle.rep_cells.specs.Readings.{Reading}
use Rattle.rep_log.specs.Tail.{IsLog, records_of}
use Rattle.rep_log.specs.Moves.{fault_of}
use Rattle.rep_pages.specs.declared.page.Page.{Page as PageBody}
use Rattle.rep_pages.specs.Slots.{state_of_page}
use Rattle.rep_pages.specs.Pages.{IsPageBody}
use Rattle.rep_steps.specs.Images.{AreJudgedFrom}
use Rattle.rep_engine.specs.Bases.{other, IsSuperAt, IsChosen}
use Rattle.rep_recover.specs.Judging.{bare}

-- Calls that write nothing: on an honest device nothing happened.
pub record Looks {D T : Type 0} (g : Ghosts D) (old new : D) (result : Result T Refusal) : Type 0 where
  pub call : Calls g old new (fault_of result)
  pub same : SameHistory g old new

-- a refusal as what the device answered
abbrev pub fault_in : Refusal → Result (Unit {0}) Fault
fault_in e = fault_of {T = Unit {0}} (Err e)

-- A refusal that comes where the device failed, or for this reason of this part.
abbrev pub RefusesPart : Part → Type 0 → Refusal → Type 0
RefusesPart part Reason e = (e ≡ DiskFault) ⊎ ((e ≡ Corrupt part) × Reason)

-- The same, or for want of memory.
abbrev pub RefusesGrowing : Part → Type 0 → Refusal → Type 0
RefusesGrowing part Reason e = (e ≡ OutOfMemory) ⊎ RefusesPart part Reason e

-- ---- superblocks

-- The bytes are no superblock that can stand on this side.
abbrev pub IsNoSuper : ℕ → Side → List ℕ → Type 0
IsNoSuper size side body = (b : SuperBody) → body ≡ super_bytes b → IsSuperAt size side b → ⊥

-- A side stands open over bytes that are none.
pub record HasBadSuper (size : ℕ) (r : Reading) : Type 0 where
  pub side : Side
  pub body : List ℕ
  pub shown : r (Super side) ≡ Some body
  pub none : IsNoSuper size side body

-- No side stands open.
abbrev pub HasNoSuper : Reading → Type 0
HasNoSuper r = (side : Side) → r (Super side) ≡ None

-- the superblock of the greater number, and whether there are two
abbrev pub chosen : Option SuperBody → Option SuperBody → Option (SuperBody × Bool)
chosen None None = None
chosen (Some a) None = Some (a, false)
chosen None (Some b) = Some (b, false)
chosen (Some a) (Some b) = if nat_lt a.number b.number then Some (b, true) else Some (a, true)

-- The superblock counts, and this says whether another one stands open.
abbrev pub Counts : ℕ → Reading → SuperBody → Bool → Type 0
Counts size r b two = IsChosen size r b × (two ≡ is_some (r (Super (other (side_of b.number)))))

-- A refusal where no superblock is found.
abbrev pub RefusesSupers : Type 0 → Type 0 → Refusal → Type 0
RefusesSupers None_open Bad e = (e ≡ DiskFault) ⊎ (((e ≡ NotFormatted) × None_open) ⊎ ((e ≡ Corrupt Superblock) × Bad))

-- ---- the window

-- The bytes are no window of this superblock.
abbrev pub IsNoWindow : SuperBody → List ℕ → Type 0
IsNoWindow b bytes = (v : WindowOf) → IsWindowBody b.params (beside b v) → bytes ≡ window_bytes (beside b v) → ⊥

-- ---- the log

-- The reading's log behind this superblock, in which there is no block without a cluster.
pub record HasBlocks (r : Reading) (b : SuperBody) (blocks : List (List Judged)) : Type 0 where
  pub log : IsLog r (layout_of b.params) b.start (b.position + 1) blocks
  pub undefined : IsNil b.uuid → blocks ≡ []

-- The items of the reading's log behind this superblock and this window, which judging gives again.
pub record HasTail (r : Reading) (b : SuperBody) (kept : WindowOf) (items : List Judged) : Type 0 where
  pub blocks : List (List Judged)
  pub has : HasBlocks r b blocks
  pub items_are : items ≡ records_of blocks
  pub judged : AreJudgedFrom b.params (bare b.position kept) items

-- ---- the pages

-- The bytes are this page of the superblock's schema, of a position not above its own.
pub record IsPageAt (b : SuperBody) (number : ℕ) (body : List ℕ) (page : PageBody) : Type 0 where
  pub is_page : IsPageBody b.params.rows page body
  pub is_it : page.number ≡ number
  pub earlier : page.position ≤ b.position

-- The page stands in this slot.
pub record HasPage (r : Reading) (b : SuperBody) (number : ℕ) (slot : Slot) : Type 0 where
  pub body : List ℕ
  pub shown : r (Page number slot) ≡ Some body
  pub page : PageBody
  pub is_page : IsPageAt b number body page

-- Each page that the superblock has in a slot stands there; or each of the first pages, so many of them.
abbrev pub HasPages : Reading → SuperBody → Type 0
HasPages r b = (number : ℕ) (slot : Slot) → state_of_page b number ≡ In slot → HasPage r b number slot

abbrev pub HasFirstPages : Reading → SuperBody → ℕ → Type 0
HasFirstPages r b n = (number : ℕ) (slot : Slot) → number < n → state_of_page b number ≡ In slot → HasPage r b number slot

-- The superblock has a page in a slot in which there is no such page.
pub record HasBadPage (r : Reading) (b : SuperBody) : Type 0 where
  pub number : ℕ
  pub slot : Slot
  pub there : state_of_page b number ≡ In slot
  pub none : HasPage r b number slot → ⊥
