-- A page of a base is what its bytes say.
use Rattle.std.proofs.Common.{◌≡◌, refl, sym, ap, subst, ◌∙◌, ℕ, ◌<◌, ◌≤◌, ◌⊎◌, inl, inr, List, [], length, replicate, Option, None, Some, Result, Ok, Err, IsOk, IfOk, arith}
use Rattle.std.proofs.lemmas.Bool.{cases_lt}
use Rattle.std.proofs.lemmas.Bool.Decides.{nat_tests}
use Rattle.std.proofs.lemmas.List.{length-replicate, get_or-replicate, get_or_past}
use Rattle.rep_types.specs.declared.refusal.Refusal.{Refusal}
use Rattle.rep_types.proofs.Choices.{of_answer}
use Rattle.rep_disk.specs.declared.disk.Disk.{Ghosts}
use Rattle.rep_disk.specs.declared.disk.DiskFault.{DiskFault as Fault}
use Rattle.rep_disk.specs.History.{History, seen, failed}
use Rattle.rep_layout.specs.declared.super_body.SuperBody.{SuperBody}
use Rattle.rep_layout.specs.Places.{layout_of}
use Rattle.rep_layout.specs.Supers.{IsSuper}
use Rattle.rep_layout.specs.declared.page_state.PageState.{PageState}
use Rattle.rep_layout.specs.declared.page_state.PageState.TheVariants.{Nowhere, In}
use Rattle.rep_layout.specs.declared.place.Slot.{Slot}
use Rattle.rep_layout.specs.declared.place.Layout.{Layout}
use Rattle.rep_layout.specs.declared.place.Place.TheVariants.{Page}
use Rattle.rep_cells.specs.Readings.{Reading, IsPlace, reading_of}
use Rattle.rep_cells.specs.Known.{IsReadable}
use Rattle.rep_cells.specs.Calls.{ReadsPlace}
use Rattle.rep_pages.specs.declared.page.Page.{Page as PageBody}
use Rattle.rep_pages.specs.Slots.{state_of_page}
use Rattle.rep_pages.specs.Pages.{IsPageBody, PagesAreTold}
use Rattle.rep_pages.specs.Rows.{Rows, row_at}
use Rattle.rep_pages.specs.Spelled.{SpellRows, page_in}
use Rattle.rep_pool.specs.Pools.{IsSpelled}
use Rattle.rep_pool.specs.BasePages.{HasPage, IsPageAsSpelled, ReadsPage, page_read, IsRowUpTo, IsRowOfPage}

-- in one slot it stands
pub same_slot : (b : SuperBody) (number : ℕ) (slot other : Slot) → state_of_page b number ≡ In slot → state_of_page b number ≡ In other → slot ≡ other
same_slot b number slot other is at = cc

-- a page that is in a slot is there
pub is_page : (b : SuperBody) → IsSuper b → (number : ℕ) (slot : Slot) → state_of_page b number ≡ In slot → IsPlace (layout_of b.params) (Page number slot)
is_page b super number slot there = by (cases_lt number (length b.pages.items))
  where
    by : ((number < length b.pages.items) ⊎ (length b.pages.items ≤ number)) → IsPlace (layout_of b.params) (Page number slot)
    by (inl lt) = grind (arith, nat_tests, lt, super.pages)
    by (inr le) = let none = sym there ∙ get_or_past b.pages.items number Nowhere le in absurd cc

-- ---- a page that is in no slot has no row

pub nowhere : (state : PageState) → ((slot : Slot) → state ≡ In slot → ⊥) → state ≡ Nowhere
nowhere Nowhere none = refl
nowhere (In slot) none = absurd (none slot refl)

no_row : (index : ℕ) → row_at (replicate 63 None) index ≡ None
no_row index = elim (cases_lt index 63) [
  | inl lt ↦ get_or-replicate 63 index None None lt
  | inr le ↦ get_or_past (replicate 63 None) index None (omega (arith, le, length-replicate {A = Option (List ℕ)} 63 None))
]

pub absent_as : (r : Reading) (b : SuperBody) (number : ℕ) (page : PageBody) → page.number ≡ number → page.rows ≡ replicate 63 None → ((slot : Slot) → state_of_page b number ≡ In slot → ⊥) → IsPageAsSpelled r b number (Ok page)
absent_as r b number page is rows none = record {
  page = inr (record { nowhere = nowhere (state_of_page b number) none; is_it = is; rows = λ index. ap (λ (rs : Rows). row_at rs index) rows ∙ no_row index });
  corrupt = λ e. absurd cc;
}

-- and its rows are those of a page without any
pub absent_row : (r : Reading) (b : SuperBody) (number index : ℕ) → ((slot : Slot) → state_of_page b number ≡ In slot → ⊥) → IsRowOfPage r b number index (Ok None)
absent_row r b number index none =
    let page : PageBody = record { number = number; position = 0; rows = replicate 63 None } in
    record { page = Ok page; spelled = absent_as r b number page refl refl none; row = ap Ok (sym (no_row index)) }

-- ---- a page that is in one is what the bytes there say

-- the body that a reader takes
pub record Takes (b : SuperBody) (number : ℕ) (bytes : List ℕ) (result : Result PageBody Refusal) : Type 0 where
  pub found : IfOk result (λ page. IsPageBody b.params.rows page bytes × (page.number ≡ number) × (page.position ≤ b.position))
  pub only : (page : PageBody) → IsPageBody b.params.rows page bytes → page.number ≡ number → page.position ≤ b.position → result ≡ Ok page

spelled_in : (r : Reading) (b : SuperBody) (number : ℕ) (slot : Slot) (bytes : List ℕ) (result : Result PageBody Refusal) → state_of_page b number ≡ In slot → r (Page number slot) ≡ Some bytes
    → IfOk result (λ page. IsPageBody b.params.rows page bytes × (page.number ≡ number) × (page.position ≤ b.position)) → IfOk result (HasPage r b number)
spelled_in r b number slot bytes (Ok page) there shown found = inl (record { slot = slot; there = there; body = bytes; shown = shown; is_page = found.0; is_it = found.1; earlier = found.2 })
spelled_in r b number slot bytes (Err e) there shown found = tt

taken_as : (r : Reading) (b : SuperBody) (number : ℕ) (slot : Slot) (bytes : List ℕ) (result : Result PageBody Refusal) → state_of_page b number ≡ In slot → r (Page number slot) ≡ Some bytes → Takes b number bytes result → IsPageAsSpelled r b number result
taken_as r b number slot bytes result there shown takes = record {
  page = spelled_in r b number slot bytes result there shown takes.found;
  corrupt = λ e. record {
    slot = slot;
    there = there;
    body = bytes;
    shown = shown;
    none = λ page is_page is_it earlier. let no = sym e ∙ takes.only page is_page is_it earlier in absurd cc;
  };
}

-- what was read into a room is taken so
pub takes_read : (b : SuperBody) (number : ℕ) (bytes : List ℕ) (result : Result ℕ Refusal)
    → IfOk result (λ position. IsPageBody b.params.rows (page_in number position bytes) bytes × SpellRows bytes × (position ≤ b.position))
    → ((page : PageBody) → IsPageBody b.params.rows page bytes → page.number ≡ number → page.position ≤ b.position → (result ≡ Ok page.position) × (page_in number page.position bytes ≡ page))
    → Takes b number bytes (page_read number bytes result)
takes_read b number bytes (Ok position) found only = record {
  found = (found.0, refl, found.2);
  only = λ page is at earlier. let told = only page is at earlier in ap (page_read number bytes) told.0 ∙ ap Ok told.1;
}
takes_read b number bytes (Err e) found only = record {
  found = tt;
  only = λ page is at earlier. let told = only page is at earlier in ap (page_read number bytes) told.0 ∙ ap Ok told.1;
}

-- where no write has failed each place is readable
readable : (l : Layout) (h : History) (number : ℕ) (slot : Slot) → failed h ≡ [] → IsReadable l h (Page number slot)
readable l h number slot none = rw none (tt, tt)

-- so it is read
pub reads :
    {D : Type 0} (g : Ghosts D) (l : Layout) (b : SuperBody) (number : ℕ) (slot : Slot) (bytes : List ℕ) (old : D) (answer : Result (Unit {0}) Fault) (result : Result PageBody Refusal)
    → state_of_page b number ≡ In slot → IsOk answer → ReadsPlace g l (Page number slot) old answer (λ _. Some bytes) → Takes b number bytes result → ReadsPage g l b number old result
reads g l b number slot bytes old answer result there ok read takes = λ h none.
    taken_as (reading_of l (seen (g.history old))) b number slot bytes result there (sym (of_answer {P = _} answer ok (read h (readable l (g.history old) number slot none)))) takes

-- a page that the bytes spell, in the slot in which the base has it
pub spelled_at : (r : Reading) (b : SuperBody) (number : ℕ) (slot : Slot) (page : PageBody) → HasPage r b number page → state_of_page b number ≡ In slot → IsSpelled b.params.rows r number slot page
spelled_at r b number slot page (inl is) there =
    let same = same_slot b number is.slot slot is.there there in
    record { body = is.body; shown = ap (λ (s : Slot). r (Page number s)) (sym same) ∙ is.shown; is_page = is.is_page; is_it = is.is_it }
spelled_at r b number slot page (inr is) there = let never : Nowhere ≡ In slot = sym is.nowhere ∙ there in absurd cc

-- ---- a page that is kept

-- it is the base's where it was not written for a later position
pub kept_page : (r : Reading) (b : SuperBody) (number : ℕ) (slot : Slot) (page : PageBody) → IsSpelled b.params.rows r number slot page → state_of_page b number ≡ In slot → page.position ≤ b.position → IsPageAsSpelled r b number (Ok page)
kept_page r b number slot page is there le = record {
  page = inl (record { slot = slot; there = there; body = is.body; shown = is.shown; is_page = is.is_page; is_it = is.is_it; earlier = le });
  corrupt = λ e. absurd cc;
}

-- and else there is none
pub later_page : PagesAreTold → (r : Reading) (b : SuperBody) (number : ℕ) (slot : Slot) (page : PageBody) (e : Refusal) → IsSpelled b.params.rows r number slot page → state_of_page b number ≡ In slot → (page.position ≤ b.position → ⊥) → IsPageAsSpelled r b number (Err e)
later_page told r b number slot page e is there later = record {
  page = tt;
  corrupt = λ _. record {
    slot = slot;
    there = there;
    body = is.body;
    shown = is.shown;
    none = λ other is_page is_it earlier. later (subst (λ (p : PageBody). p.position ≤ b.position) (told b.params.rows other page is.body is_page is.is_page) earlier);
  };
}

-- its row
pub kept_row :
    PagesAreTold → (r : Reading) (b : SuperBody) (number index : ℕ) (slot : Slot) (page : PageBody) (row : Result (Option (List ℕ)) Refusal) → IsSpelled b.params.rows r number slot page → state_of_page b number ≡ In slot
    → IsRowUpTo b.position page index row → IsRowOfPage r b number index row
kept_row told r b number index slot page (Ok row) is there up = record { page = Ok page; spelled = kept_page r b number slot page is there up.row.1; row = ap Ok up.row.0 }
kept_row told r b number index slot page (Err e) is there up = record { page = Err e; spelled = later_page told r b number slot page e is there up.later.1; row = refl }
