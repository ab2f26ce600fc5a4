-- What reading and writing a page do: work for `flush`.
use Rattle.std.specs.Prelude.{◌≡◌, ◌≢◌, ℕ, List, length, Option, Result, Err, OnOk}
use Rattle.rep_types.specs.declared.key.Key.{Key}
use Rattle.rep_types.specs.declared.refusal.Refusal.{Refusal}
use Rattle.rep_types.specs.declared.refusal.Refusal.TheVariants.{Corrupt}
use Rattle.rep_types.specs.declared.refusal.Part.TheVariants.{Pages}
use Rattle.rep_types.specs.Settings.{IsRow}
use Rattle.rep_disk.specs.declared.disk.Disk.{Ghosts}
use Rattle.rep_disk.specs.History.{History}
use Rattle.rep_layout.specs.declared.super_body.SuperBody.{SuperBody}
use Rattle.rep_layout.specs.declared.place.Layout.{Layout}
use Rattle.rep_layout.specs.declared.place.Slot.{Slot}
use Rattle.rep_layout.specs.declared.place.TheConstants.{PAGE_BODY}
use Rattle.rep_layout.specs.declared.place.Place.{Place}
use Rattle.rep_layout.specs.declared.place.Place.TheVariants.{Page}
use Rattle.rep_layout.specs.Places.{offset_of}
use Rattle.rep_layout.specs.Rows.{row_place}
use Rattle.rep_cells.specs.States.{States, Pending, Stable, writing}
use Rattle.rep_cells.specs.Known.{Assigns}
use Rattle.rep_cells.specs.Calls.{WritesOnly, WritesIn, StepsAt, Reaches}
use Rattle.rep_pool.specs.BasePages.{IsPageReadable}
use Rattle.rep_versions.specs.Versions.{Kept}
use Rattle.rep_pages.specs.declared.page.Page.{Page as PageBody}
use Rattle.rep_pages.specs.Slots.{state_of_page, spare_slot}
use Rattle.rep_pages.specs.Pages.{IsPageBody}
use Rattle.rep_pages.specs.Images.{row_of}
use Rattle.rep_image.specs.Bases.{HaveContent}
use Rattle.rep_checkpoint.specs.Calls.{AreAt, WritesPage, FlushesAsSpelled}

-- The pages of this superblock are stable, and of this content.
abbrev pub IsStable : SuperBody → (Key → Option (List ℕ)) → States → Type 0
IsStable b content s = HaveContent b (λ number slot body. s (Page number slot) ≡ Stable body) content

-- The rows of the page of this number are those of this content.
abbrev pub AreRows : List ℕ → ℕ → (Key → Option (List ℕ)) → PageBody → Type 0
AreRows rows number content page = (key : Key) → IsRow rows key → (row_place rows key).page ≡ number → content key ≡ row_of rows page.rows key

-- These bytes, the spelling of the page, are written into its slot.
pub record PutsPage {D T E : Type 0} (g : Ghosts D) (l : Layout) (b : SuperBody) (page : PageBody) (slot : Slot) (old new : D) (result : Result T E) : Type 0 where
  pub bytes : List ℕ
  pub is_page : IsPageBody b.params.rows page bytes
  pub size : length bytes ≡ PAGE_BODY
  pub written : WritesOnly g (offset_of l (Page page.number slot)) bytes old new result
  pub inside : WritesIn g l (Page page.number slot) old new result
  pub states : StepsAt g l (Page page.number slot) (writing bytes) old new result

-- The page of this number at this position, with rows of this content, as bytes.
pub record IsPageAt (rows : List ℕ) (number position : ℕ) (content : Key → Option (List ℕ)) (body : List ℕ) : Type 0 where
  pub page : PageBody
  pub is_page : IsPageBody rows page body
  pub is_it : page.number ≡ number
  pub at : page.position ≡ position
  pub rows_are : AreRows rows number content page

-- There are states in which that page is pending in its place, where the call succeeds, and each other place is as it was.
pub record PutsIn {T E : Type 0} (l : Layout) (old new : History) (s : States) (place : Place) (Is : List ℕ → Type 0) (result : Result T E) : Type 0 where
  pub states : States
  pub elsewhere : (other : Place) → other ≢ place → states other ≡ s other
  pub there : OnOk result ((body : List ℕ) × (states place ≡ Pending body) × Is body)
  pub reaches : Reaches l old new states states result

-- The page was read, and written as it is at this position into the slot in which the superblock hasn't it.
pub record MovesPage {D T : Type 0} (g : Ghosts D) (l : Layout) (b : SuperBody) (kept : Kept) (position number : ℕ) (old new : D) (result : Result T Refusal) : Type 0 where
  pub written : g.honest old → WritesPage (offset_of l (Page number (spare_slot (state_of_page b number)))) (g.history old) (g.history new) result
  pub puts : g.honest old → (s : States) (x y : Key → Option (List ℕ)) → Assigns l (g.history old) s → IsStable b x s → AreAt b.params.rows kept position x y
      → PutsIn l (g.history old) (g.history new) s (Page number (spare_slot (state_of_page b number))) (IsPageAt b.params.rows number position y) result
  pub whole : g.honest old → (s : States) (content : Key → Option (List ℕ)) → Assigns l (g.history old) s → IsStable b content s → result ≢ Err (Corrupt Pages)
  pub spelled : g.honest old → IsPageReadable l (g.history old) b number → FlushesAsSpelled l b kept position number (g.history old) (g.history new) result
