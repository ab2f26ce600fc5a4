-- What a pool keeps, and what is so of it.
use Rattle.std.specs.Prelude.{◌≡◌, ◌≢◌, ◌⊎◌, ℕ, ◌≤◌, List, [], length, Bool, true, false, cond, Option, None, Some, Contains, nat_eq}
use Rattle.std.specs.Map.{lookup, remove_entry}
use Rattle.lru.specs.LruCache.{lru_cache, promoted, put_entries}
use Rattle.rep_disk.specs.History.{History, Synced, seen, stable, failed}
use Rattle.rep_layout.specs.declared.place.Layout.{Layout}
use Rattle.rep_layout.specs.declared.place.Slot.{Slot}
use Rattle.rep_layout.specs.declared.place.Slot.TheVariants.{First, Second}
use Rattle.rep_layout.specs.declared.place.Place.{Place}
use Rattle.rep_layout.specs.declared.place.Place.TheVariants.{Page}
use Rattle.rep_layout.specs.Places.{need_of}
use Rattle.rep_cells.specs.Readings.{Reading, IsPlace, reading_of}
use Rattle.rep_cells.specs.Calls.{WroteIn}
use Rattle.rep_pages.specs.declared.page.Page.{Page as PageBody}
use Rattle.rep_pages.specs.Pages.{IsPageBody}
use Rattle.rep_pool.specs.declared.pool.Kept.{Kept}
use Rattle.rep_pool.specs.declared.pool.TheConstants.{POOL_PAGES}

-- the pages that a pool keeps, by their numbers, the one that was used last in front
abbrev pub Pooled : Type 0
Pooled = List (ℕ × Kept)

-- ---- what the calls make of them

abbrev pub is_slot : Slot → Slot → Bool
is_slot First First = true
is_slot First Second = false
is_slot Second First = false
is_slot Second Second = true

-- what was kept, where it is of this slot
abbrev pub page_in : Slot → Option Kept → Option PageBody
page_in slot None = None
page_in slot (Some kept) = cond (is_slot kept.slot slot) (Some kept.page) None

-- what is kept of the page as this slot had it
abbrev pub found : ℕ → Slot → Pooled → Option PageBody
found number slot pages = page_in slot (lookup (nat_eq number) pages)

-- the page of this number in front
abbrev pub used : ℕ → Pooled → Pooled
used number pages = promoted (nat_eq number) pages

-- with this page in front: in the place of what was kept of it, and else in a place more, for which the last of 64 pages goes
abbrev pub with_page : ℕ → Kept → Pooled → Pooled
with_page number kept pages = put_entries nat_eq (lru_cache pages POOL_PAGES) number kept

-- without what is kept of the page
abbrev pub without_page : ℕ → Pooled → Pooled
without_page number pages = remove_entry (nat_eq number) pages

-- A page was read and is kept: or, where it was not kept before and room for it was refused, the pool is as it was.
abbrev pub IsKept : ℕ → Kept → Pooled → Pooled → Type 0
IsKept number kept before after = (after ≡ with_page number kept before) ⊎ ((after ≡ before) × (lookup (nat_eq number) before ≡ None))

-- ---- what is so of each page that is kept

-- Of each page this is so of its number, its slot, and what it was there.
abbrev pub AreEach : (ℕ → Slot → PageBody → Type 0) → Pooled → Type 0
AreEach Is pages = (number : ℕ) (kept : Kept) → Contains pages (number, kept) → Is number kept.slot kept.page

-- It has the number by which it is kept.
abbrev pub AreNumbered : Pooled → Type 0
AreNumbered pages = AreEach (λ number slot page. page.number ≡ number) pages

-- In the slot a reading has this page: the bytes there spell it, and it is of that number.
pub record IsSpelled (rows : List ℕ) (r : Reading) (number : ℕ) (slot : Slot) (page : PageBody) : Type 0 where
  pub body : List ℕ
  pub shown : r (Page number slot) ≡ Some body
  pub is_page : IsPageBody rows page body
  pub is_it : page.number ≡ number

-- There is such a slot, and it reads as the page.
abbrev pub IsAsRead : List ℕ → Layout → History → ℕ → Slot → PageBody → Type 0
IsAsRead rows l h number slot page = IsPlace l (Page number slot) × IsSpelled rows (reading_of l (seen h)) number slot page

-- The pool agrees with a device that has room for the places, and on which no write has failed since the last sync that succeeded: each
-- page that is kept is as its slot has it. It speaks of slots, whatever base there is.
pub record Agrees (rows : List ℕ) (l : Layout) (h : History) (pages : Pooled) : Type 0 where
  pub fits : need_of l ≤ length (stable h)
  pub unfailed : failed h ≡ []
  pub each : AreEach (IsAsRead rows l h) pages

-- ---- how it goes on

-- No page is kept of this place.
abbrev pub IsFree : Place → Pooled → Type 0
IsFree place pages = (number : ℕ) (kept : Kept) → Contains pages (number, kept) → Page number kept.slot ≢ place

-- A pool that keeps nothing agrees with a device that has room for the places, and on which no write has failed since the last sync that
-- succeeded. A pool that agrees with a device does so behind a write in a place of which no page is kept, and behind a sync.
pub record PoolsGoOn : Type 0 where
  pub begins : (rows : List ℕ) (l : Layout) (h : History) → need_of l ≤ length (stable h) → failed h ≡ [] → Agrees rows l h []
  pub written : (rows : List ℕ) (l : Layout) (old new : History) (pages : Pooled) (place : Place) → WroteIn l place old new → IsFree place pages → Agrees rows l old pages → Agrees rows l new pages
  pub synced : (rows : List ℕ) (l : Layout) (h : History) (pages : Pooled) → Agrees rows l h pages → Agrees rows l (Synced h) pages
