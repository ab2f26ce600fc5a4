-- What a reading has as a base: a superblock with what it names.
use Rattle.std.specs.Prelude.{◌≡◌, ℕ, ◌<◌, ◌≤◌, List, Option, None, Some}
use Rattle.rep_types.specs.declared.key.Key.{Key}
use Rattle.rep_types.specs.Windows.{Window as Kept}
use Rattle.rep_types.specs.Settings.{IsRow}
use Rattle.rep_layout.specs.declared.super_body.SuperBody.{SuperBody}
use Rattle.rep_layout.specs.declared.page_state.PageState.TheVariants.{Nowhere, In}
use Rattle.rep_layout.specs.declared.place.Side.{Side}
use Rattle.rep_layout.specs.declared.place.Side.TheVariants.{A, B}
use Rattle.rep_layout.specs.declared.place.Slot.{Slot}
use Rattle.rep_layout.specs.declared.place.Place.TheVariants.{Super, Window, Page}
use Rattle.rep_layout.specs.Places.{side_of, layout_of, need_of}
use Rattle.rep_layout.specs.Rows.{row_place}
use Rattle.rep_layout.specs.Supers.{IsSuper, super_bytes}
use Rattle.rep_layout.specs.Windows.{window_bytes, IsWindowBody, beside}
use Rattle.rep_steps.specs.Readings.{Reading}
use Rattle.rep_pages.specs.declared.page.Page.{Page as PageBody}
use Rattle.rep_pages.specs.Slots.{state_of_page}
use Rattle.rep_pages.specs.Pages.{IsPageBody}
use Rattle.rep_pages.specs.Images.{row_of}

abbrev pub other : Side → Side
other A = B
other B = A

-- A superblock that can stand on this side of a device of this size.
pub record IsSuperAt (size : ℕ) (side : Side) (b : SuperBody) : Type 0 where
  pub is_super : IsSuper b
  pub here : side_of b.number ≡ side
  pub fits : need_of (layout_of b.params) ≤ size

-- The side is closed, or a superblock of a lesser number is open there.
abbrev pub IsLesser : ℕ → Side → ℕ → Option (List ℕ) → Type 0
IsLesser size side number None = Unit {0}
IsLesser size side number (Some body) = (b : SuperBody) × (body ≡ super_bytes b) × IsSuperAt size side b × (b.number < number)

-- Of the superblocks that are open in a reading this one has the greatest number, and each is of the form.
pub record IsChosen (size : ℕ) (r : Reading) (b : SuperBody) : Type 0 where
  pub stands : r (Super (side_of b.number)) ≡ Some (super_bytes b)
  pub is_super : IsSuperAt size (side_of b.number) b
  pub lesser : IsLesser size (other (side_of b.number)) b.number (r (Super (other (side_of b.number))))

-- The window beside it.
pub record HasWindow (r : Reading) (b : SuperBody) (v : Kept) : Type 0 where
  pub stands : r (Window (side_of b.number)) ≡ Some (window_bytes (beside b v))
  pub is_window : IsWindowBody b.params (beside b v)

-- The body is its page of this number, of a position not above its own, whose rows are of this content.
pub record IsPageOf (b : SuperBody) (number : ℕ) (content : Key → Option (List ℕ)) (body : List ℕ) : Type 0 where
  pub page : PageBody
  pub is_page : IsPageBody b.params.rows page body
  pub is_it : page.number ≡ number
  pub earlier : page.position ≤ b.position
  pub rows : (key : Key) → IsRow b.params.rows key → (row_place b.params.rows key).page ≡ number → content key ≡ row_of b.params.rows page.rows key

-- Pages with these bodies, by page and slot, have this content: that of each page in the slot in which it stands. A row of a page
-- in no slot is absent, and so is what is no row.
pub record HaveContent (b : SuperBody) (Has : ℕ → Slot → List ℕ → Type 0) (content : Key → Option (List ℕ)) : Type 0 where
  pub pages : (number : ℕ) (slot : Slot) → state_of_page b number ≡ In slot → (body : List ℕ) × Has number slot body × IsPageOf b number content body
  pub absent : (key : Key) → IsRow b.params.rows key → state_of_page b (row_place b.params.rows key).page ≡ Nowhere → content key ≡ None
  pub outside : (key : Key) → (IsRow b.params.rows key → ⊥) → content key ≡ None

-- the pages of a reading have it
abbrev pub HasContent : Reading → SuperBody → (Key → Option (List ℕ)) → Type 0
HasContent r b content = HaveContent b (λ number slot body. r (Page number slot) ≡ Some body) content
