-- A page of a base: what the bytes say in the slot in which a superblock has it.
use Rattle.std.specs.Prelude.{◌≡◌, ◌≢◌, ◌⊎◌, ℕ, ◌≤◌, List, [], Option, None, Some, Result, Ok, Err, IfOk, IfErr}
use Rattle.rep_types.specs.declared.refusal.Refusal.{Refusal}
use Rattle.rep_types.specs.declared.refusal.Refusal.TheVariants.{DiskFault, Corrupt}
use Rattle.rep_types.specs.declared.refusal.Part.TheVariants.{Pages}
use Rattle.rep_disk.specs.declared.disk.Disk.{Ghosts}
use Rattle.rep_disk.specs.History.{History, seen, failed}
use Rattle.rep_layout.specs.declared.super_body.SuperBody.{SuperBody}
use Rattle.rep_layout.specs.declared.place.Layout.{Layout}
use Rattle.rep_layout.specs.declared.place.Slot.{Slot}
use Rattle.rep_layout.specs.declared.place.Place.TheVariants.{Page}
use Rattle.rep_layout.specs.declared.page_state.PageState.TheVariants.{Nowhere, In}
use Rattle.rep_layout.specs.Places.{layout_of}
use Rattle.rep_layout.specs.Supers.{IsSuper}
use Rattle.rep_cells.specs.Readings.{Reading, IsPlace, reading_of}
use Rattle.rep_cells.specs.Known.{IsReadable}
use Rattle.rep_pages.specs.declared.page.Page.{Page as PageBody}
use Rattle.rep_pages.specs.Slots.{state_of_page}
use Rattle.rep_pages.specs.Pages.{IsPageBody}
use Rattle.rep_pages.specs.Rows.{row_at}
use Rattle.rep_pages.specs.Spelled.{page_in}
use Rattle.rep_pool.specs.declared.pool.Kept.{Kept}
use Rattle.rep_pool.specs.Pools.{Pooled, IsKept, Agrees}

-- ---- what a reading has of a page

-- A page that a superblock has in a slot has a place in its layout.
abbrev pub PagesArePlaces : Type 0
PagesArePlaces = (b : SuperBody) → IsSuper b → (number : ℕ) (slot : Slot) → state_of_page b number ≡ In slot → IsPlace (layout_of b.params) (Page number slot)

-- No write that failed lies in the slot in which the superblock has the page.
abbrev pub IsPageReadable : Layout → History → SuperBody → ℕ → Type 0
IsPageReadable l h b number = (slot : Slot) → state_of_page b number ≡ In slot → IsReadable l h (Page number slot)

-- In the slot in which the superblock has the page a reading has no such page.
pub record IsBadPage (r : Reading) (b : SuperBody) (number : ℕ) : Type 0 where
  pub slot : Slot
  pub there : state_of_page b number ≡ In slot
  pub body : List ℕ
  pub shown : r (Page number slot) ≡ Some body
  pub none : (page : PageBody) → IsPageBody b.params.rows page body → page.number ≡ number → page.position ≤ b.position → ⊥

-- There it has this one: the bytes spell it, and it is of that number and of a position not above the superblock's.
pub record IsSpelledPage (r : Reading) (b : SuperBody) (number : ℕ) (page : PageBody) : Type 0 where
  pub slot : Slot
  pub there : state_of_page b number ≡ In slot
  pub body : List ℕ
  pub shown : r (Page number slot) ≡ Some body
  pub is_page : IsPageBody b.params.rows page body
  pub is_it : page.number ≡ number
  pub earlier : page.position ≤ b.position

-- The superblock has it in no slot, and it has no row.
pub record IsAbsentPage (b : SuperBody) (number : ℕ) (page : PageBody) : Type 0 where
  pub nowhere : state_of_page b number ≡ Nowhere
  pub is_it : page.number ≡ number
  pub rows : (index : ℕ) → row_at page.rows index ≡ None

-- the superblock's page, as a reading has it
abbrev pub HasPage : Reading → SuperBody → ℕ → PageBody → Type 0
HasPage r b number page = IsSpelledPage r b number page ⊎ IsAbsentPage b number page

-- The bytes of a reading decide: what is given is the page that they spell, and it is corrupt only where they spell none.
pub record IsPageAsSpelled (r : Reading) (b : SuperBody) (number : ℕ) (result : Result PageBody Refusal) : Type 0 where
  pub page : IfOk result (HasPage r b number)
  pub corrupt : result ≡ Err (Corrupt Pages) → IsBadPage r b number

-- ---- what is given

-- A page is read: on an honest device on which no write has failed since the last sync that succeeded, its bytes decide.
abbrev pub ReadsPage : {D : Type 0} → Ghosts D → Layout → SuperBody → ℕ → D → Result PageBody Refusal → Type 0
ReadsPage g l b number old result = g.honest old → failed (g.history old) ≡ [] → IsPageAsSpelled (reading_of l (seen (g.history old))) b number result

-- what was read into a room: the page that the bytes there spell, as it was written for a position
abbrev pub page_read : ℕ → List ℕ → Result ℕ Refusal → Result PageBody Refusal
page_read number bytes (Ok position) = Ok (page_in number position bytes)
page_read number bytes (Err e) = Err e

-- that page as it is kept
abbrev pub kept_in : ℕ → Slot → ℕ → List ℕ → Kept
kept_in number slot position bytes = record { slot = slot; page = page_in number position bytes }

-- So they do where the pool agrees with the device.
abbrev pub GivesPage : {D : Type 0} → Ghosts D → Layout → SuperBody → ℕ → D → Pooled → Result PageBody Refusal → Type 0
GivesPage g l b number old before result = g.honest old → Agrees b.params.rows l (g.history old) before → IsPageAsSpelled (reading_of l (seen (g.history old))) b number result

-- the row at this place of a page that is given
abbrev pub row_of_page : ℕ → Result PageBody Refusal → Result (Option (List ℕ)) Refusal
row_of_page index (Ok page) = Ok (row_at page.rows index)
row_of_page index (Err e) = Err e

-- The row at this place of a page that is kept: it is given exactly where the page was not written for a position above this one.
pub record IsRowUpTo (position : ℕ) (page : PageBody) (index : ℕ) (result : Result (Option (List ℕ)) Refusal) : Type 0 where
  pub row : IfOk result (λ row. (row ≡ row_at page.rows index) × (page.position ≤ position))
  pub later : IfErr result (λ e. (e ≡ Corrupt Pages) × (page.position ≤ position → ⊥))

-- The row is that of the page that the bytes spell.
pub record IsRowOfPage (r : Reading) (b : SuperBody) (number index : ℕ) (result : Result (Option (List ℕ)) Refusal) : Type 0 where
  pub page : Result PageBody Refusal
  pub spelled : IsPageAsSpelled r b number page
  pub row : result ≡ row_of_page index page

abbrev pub GivesRow : {D : Type 0} → Ghosts D → Layout → SuperBody → ℕ → ℕ → D → Pooled → Result (Option (List ℕ)) Refusal → Type 0
GivesRow g l b number index old before result = g.honest old → Agrees b.params.rows l (g.history old) before → IsRowOfPage (reading_of l (seen (g.history old))) b number index result

-- The pool agrees with the device, if that is honest.
abbrev pub IsPooled : {D : Type 0} → Ghosts D → List ℕ → Layout → D → Pooled → Type 0
IsPooled g rows l disk pages = g.honest disk → Agrees rows l (g.history disk) pages

-- It does so afterwards, if it did.
abbrev pub GoesOn : {D : Type 0} → Ghosts D → List ℕ → Layout → D → D → Pooled → Pooled → Type 0
GoesOn g rows l old new before after = IsPooled g rows l old before → IsPooled g rows l new after

-- So it does unless the device failed.
abbrev pub GoesOnIf : {D T : Type 0} → Ghosts D → List ℕ → Layout → D → D → Pooled → Pooled → Result T Refusal → Type 0
GoesOnIf g rows l old new before after result = result ≢ Err DiskFault → GoesOn g rows l old new before after

-- Some page of the slot was read, and is kept, if there was room.
abbrev pub IsKeptAnew : ℕ → Slot → Pooled → Pooled → Type 0
IsKeptAnew number slot before after = (page : PageBody) × IsKept number (record { slot = slot; page = page }) before after
