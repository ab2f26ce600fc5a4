-- What the bytes of a page's slot say.
use Rattle.std.proofs.Common.{◌≡◌, inl, inr, ℕ, List, Some, sym, ap, subst, ◌∙◌}
use Rattle.rep_layout.specs.declared.super_body.SuperBody.{SuperBody}
use Rattle.rep_layout.specs.declared.page_state.PageState.TheVariants.{Nowhere, In}
use Rattle.rep_layout.specs.declared.place.Slot.{Slot}
use Rattle.rep_layout.specs.declared.place.Place.TheVariants.{Page}
use Rattle.rep_cells.specs.Readings.{Reading}
use Rattle.rep_pages.specs.declared.page.Page.{Page as PageBody}
use Rattle.rep_pages.specs.Slots.{state_of_page}
use Rattle.rep_pages.specs.Pages.{IsPageBody, PagesAreTold}
use Rattle.rep_pages.specs.Rows.{row_at}
use Rattle.rep_pool.specs.BasePages.{IsBadPage, HasPage}

-- ---- they say one thing

-- in one slot there is one body
same_slot : (b : SuperBody) (number : ℕ) (slot other : Slot) → state_of_page b number ≡ In slot → state_of_page b number ≡ In other → slot ≡ other
same_slot b number slot other is at = cc

same_body : (r : Reading) (number : ℕ) (slot other : Slot) (body bytes : List ℕ) → slot ≡ other → r (Page number slot) ≡ Some body → r (Page number other) ≡ Some bytes → body ≡ bytes
same_body r number slot other body bytes same shown is =
    let there : r (Page number slot) ≡ Some bytes = ap (λ (s : Slot). r (Page number s)) same ∙ is in
    cc

pub not_bad : (r : Reading) (b : SuperBody) (number : ℕ) (page : PageBody) → HasPage r b number page → IsBadPage r b number → ⊥
not_bad r b number page (inl is) bad =
    let same : is.body ≡ bad.body = same_body r number is.slot bad.slot is.body bad.body (same_slot b number is.slot bad.slot is.there bad.there) is.shown bad.shown in
    bad.none page (subst (IsPageBody b.params.rows page) same is.is_page) is.is_it is.earlier
not_bad r b number page (inr is) bad = let never : Nowhere ≡ In bad.slot = sym is.nowhere ∙ bad.there in absurd cc

pub same_rows : PagesAreTold → (r : Reading) (b : SuperBody) (number : ℕ) (page other : PageBody) → HasPage r b number page → HasPage r b number other → (index : ℕ) → row_at page.rows index ≡ row_at other.rows index
same_rows told r b number page other (inl is) (inl at) index =
    let same : is.body ≡ at.body = same_body r number is.slot at.slot is.body at.body (same_slot b number is.slot at.slot is.there at.there) is.shown at.shown in
    ap (λ (p : PageBody). row_at p.rows index) (told b.params.rows page other at.body (subst (IsPageBody b.params.rows page) same is.is_page) at.is_page)
same_rows told r b number page other (inl is) (inr at) index = let never : Nowhere ≡ In is.slot = sym at.nowhere ∙ is.there in absurd cc
same_rows told r b number page other (inr is) (inl at) index = let never : Nowhere ≡ In at.slot = sym is.nowhere ∙ at.there in absurd cc
same_rows told r b number page other (inr is) (inr at) index = is.rows index ∙ sym (at.rows index)
