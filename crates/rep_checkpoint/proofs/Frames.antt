-- Places that stay as they are.
use Rattle.std.proofs.Common.{◌≡◌, ◌≢◌, refl, sym, ap, subst, ◌∙◌, ℕ, ◌+◌, List, Option}
use Rattle.rep_types.specs.declared.key.Key.{Key}
use Rattle.rep_types.specs.Order.{State}
use Rattle.rep_layout.specs.declared.super_body.SuperBody.{SuperBody}
use Rattle.rep_layout.specs.declared.page_state.PageState.{PageState}
use Rattle.rep_layout.specs.declared.page_state.PageState.TheVariants.{Nowhere, In}
use Rattle.rep_layout.specs.declared.place.Side.{Side}
use Rattle.rep_layout.specs.declared.place.Side.TheVariants.{A, B}
use Rattle.rep_layout.specs.declared.place.Slot.{Slot}
use Rattle.rep_layout.specs.declared.place.Slot.TheVariants.{First, Second}
use Rattle.rep_layout.specs.declared.place.Place.{Place}
use Rattle.rep_layout.specs.declared.place.Place.TheVariants.{Super, Window, Page}
use Rattle.rep_layout.specs.Places.{side_of, TurnsAreTaken}
use Rattle.rep_layout.specs.Supers.{IsSuper, super_bytes}
use Rattle.rep_layout.specs.Windows.{IsWindowBody}
use Rattle.rep_cells.specs.States.{State as StateOf, States, Opening}
use Rattle.rep_pages.specs.Slots.{state_of_page, spare_slot}
use Rattle.rep_image.specs.Bases.{other, HaveContent}
use Rattle.rep_checkpoint.specs.declared.stage.Part.{Part}
use Rattle.rep_checkpoint.specs.declared.stage.Part.TheVariants.{Flushing, Saving, Ready, SuperFilling, SuperFilled, SuperOpening}
use Rattle.rep_checkpoint.specs.Next.{Next, window_of}
use Rattle.rep_checkpoint.specs.Standing.{spare_side}
use Rattle.rep_checkpoint.specs.States.{IsBase, IsFlushing, IsSaving, IsSaved, IsFar, IsToward, IsWritten, cell_in}

-- ---- places that differ

abbrev pub side_in : Place → Side
side_in (Super side) = side
side_in (Window side) = side
side_in place = A

abbrev pub slot_in : Place → Slot
slot_in (Page page slot) = slot
slot_in place = First

abbrev pub page_number : Place → ℕ
page_number (Page page slot) = page
page_number place = 0

pub other_side : (side : Side) → side ≢ other side
other_side A e = absurd cc
other_side B e = absurd cc

pub other_again : (side : Side) → other (other side) ≡ side
other_again A = refl
other_again B = refl

pub super_apart : (b : SuperBody) → Super (side_of b.number) ≢ Super (spare_side b)
super_apart b e = other_side (side_of b.number) (ap side_in e)

pub window_apart : (b : SuperBody) → Window (side_of b.number) ≢ Window (spare_side b)
window_apart b e = other_side (side_of b.number) (ap side_in e)

pub spare_apart : (state : PageState) → In (spare_slot state) ≢ state
spare_apart Nowhere e = absurd cc
spare_apart (In First) e = absurd cc
spare_apart (In Second) e = absurd cc

-- the next number lies on the other side
two_sides : (a b : Side) → a ≢ b → a ≡ other b
two_sides A A apart = absurd (apart refl)
two_sides A B apart = refl
two_sides B A apart = refl
two_sides B B apart = absurd (apart refl)

pub next_side : TurnsAreTaken → (b c : SuperBody) → c.number ≡ b.number + 1 → side_of c.number ≡ spare_side b
next_side turns b c e = ap side_of e ∙ two_sides (side_of (b.number + 1)) (side_of b.number) (turns.sides b.number)

-- ---- what isn't touched stays

pub content_as : {b : SuperBody} {Has Had : ℕ → Slot → List ℕ → Type 0} {content : Key → Option (List ℕ)}
    → ((number : ℕ) (slot : Slot) (body : List ℕ) → state_of_page b number ≡ In slot → Had number slot body → Has number slot body) → HaveContent b Had content → HaveContent b Has content
content_as moves h = record {
  pages = λ number slot there. let page = h.pages number slot there in (page.0, moves number slot page.0 there page.1, page.2);
  absent = h.absent;
  outside = h.outside;
}

-- the pages of a superblock stay
abbrev pub PagesStay : SuperBody → States → States → Type 0
PagesStay b s t = (number : ℕ) (slot : Slot) → state_of_page b number ≡ In slot → t (Page number slot) ≡ s (Page number slot)

pub base_as : {size : ℕ} {b : SuperBody} {x : State} {s t : States} → t (Super (side_of b.number)) ≡ s (Super (side_of b.number)) → t (Window (side_of b.number)) ≡ s (Window (side_of b.number)) → PagesStay b s t → IsBase size b x s → IsBase size b x t
base_as super window pages h = record {
  is_super = h.is_super;
  position = h.position;
  opened = super ∙ h.opened;
  saved = window ∙ h.saved;
  is_window = h.is_window;
  content = content_as (λ number slot body there e. pages number slot there ∙ e) h.content;
}

pub written_as : (body : List ℕ) (a b : StateOf) → b ≡ a → IsWritten body a → IsWritten body b
written_as body a b e h = subst (IsWritten body) (sym e) h

pub flushing_as : {next : Next} {y : State} {s t : States} → PagesStay next.super s t → IsFlushing next y s → IsFlushing next y t
flushing_as pages h = record {
  pages = λ number slot out there. let page = h.pages number slot out there in (page.0, written_as page.0 _ _ (pages number slot there) page.1, page.2);
  absent = h.absent;
  outside = h.outside;
}

pub saving_as : {side : Side} {next : Next} {y : State} {s t : States} → t (Window side) ≡ s (Window side) → PagesStay next.super s t → IsSaving side next y s → IsSaving side next y t
saving_as window pages h = record {
  window = written_as _ _ _ window h.window;
  content = content_as (λ number slot body there e. written_as body _ _ (pages number slot there) e) h.content;
}

pub saved_as : {side : Side} {next : Next} {y : State} {s t : States} → t (Window side) ≡ s (Window side) → PagesStay next.super s t → IsSaved side next y s → IsSaved side next y t
saved_as window pages h = record {
  window = window ∙ h.window;
  content = content_as (λ number slot body there e. pages number slot there ∙ e) h.content;
}

pub far_as : (part : Part) (side : Side) (next : Next) (y : State) (s t : States) → t (Window side) ≡ s (Window side) → PagesStay next.super s t → IsFar part side next y s → IsFar part side next y t
far_as Flushing side next y s t window pages h = flushing_as pages h
far_as Saving side next y s t window pages h = saving_as window pages h
far_as Ready side next y s t window pages h = saved_as window pages h
far_as SuperFilling side next y s t window pages h = saved_as window pages h
far_as SuperFilled side next y s t window pages h = saved_as window pages h
far_as SuperOpening side next y s t window pages h = saved_as window pages h

-- The next base is stable, and its superblock's gate opens: what a sync and an image need of it, of whatever cluster it is.
pub record IsOpening (base : SuperBody) (next : Next) (y : State) (s : States) : Type 0 where
  pub is_super : IsSuper next.super
  pub number : next.super.number ≡ base.number + 1
  pub params : next.super.params ≡ base.params
  pub is_window : IsWindowBody next.super.params (window_of next)
  pub position : y.position ≡ next.super.position
  pub kept : y.kept ≡ next.window
  pub saved : IsSaved (spare_side base) next y s
  pub cell : s (Super (spare_side base)) ≡ Opening (super_bytes next.super)

-- a checkpoint's next base is one
pub toward_opens : (base : SuperBody) (next : Next) (y : State) (s : States) → IsToward base next SuperOpening y s → IsOpening base next y s
toward_opens base next y s h = search

-- the next base comes as far as its window, its pages and its superblock's cell do
pub toward_as : {base : SuperBody} {next : Next} {y : State} {s t : States} (part to : Part) → IsToward base next part y s → IsFar to (spare_side base) next y t → t (Super (spare_side base)) ≡ cell_in to (super_bytes next.super) → IsToward base next to y t
toward_as part to h far cell = record { follows = h.follows; position = h.position; kept = h.kept; far = far; cell = cell }
