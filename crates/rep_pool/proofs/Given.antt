-- What is given of a page that is kept, or isn't.
use Rattle.std.proofs.Common.{◌≡◌, ◌⊎◌, inr, refl, sym, subst, ◌∙◌, ℕ, List, Option, None, Some, Result, Ok, Err, IfErr, OnOk, OnErr}
use Rattle.rep_types.specs.declared.refusal.Refusal.{Refusal}
use Rattle.rep_types.specs.declared.refusal.Refusal.TheVariants.{DiskFault, Corrupt}
use Rattle.rep_types.specs.declared.refusal.Part.TheVariants.{Pages}
use Rattle.rep_disk.specs.History.{History, seen}
use Rattle.rep_layout.specs.declared.super_body.SuperBody.{SuperBody}
use Rattle.rep_layout.specs.declared.page_state.PageState.TheVariants.{In}
use Rattle.rep_layout.specs.declared.place.Layout.{Layout}
use Rattle.rep_layout.specs.declared.place.Slot.{Slot}
use Rattle.rep_cells.specs.Readings.{reading_of}
use Rattle.rep_pages.specs.declared.page.Page.{Page as PageBody}
use Rattle.rep_pages.specs.Slots.{state_of_page}
use Rattle.rep_pages.specs.Pages.{PagesAreTold}
use Rattle.rep_pool.specs.Pools.{Pooled, found, used, IsAsRead, IsSpelled, Agrees}
use Rattle.rep_pool.specs.BasePages.{IsRowUpTo, IsRowOfPage}
use Rattle.rep_pool.proofs.Each.{found_is}
use Rattle.rep_pool.proofs.GoingOn.{used_agrees}
use Rattle.rep_pool.proofs.Pages.{kept_row}

-- what is kept is as the slot has it
pub found_spelled : (rows : List ℕ) (l : Layout) (h : History) (number : ℕ) (slot : Slot) (pages : Pooled) (page : PageBody) → found number slot pages ≡ Some page → Agrees rows l h pages → IsSpelled rows (reading_of l (seen h)) number slot page
found_spelled rows l h number slot pages page is agrees = (found_is (IsAsRead rows l h) number slot pages page is agrees.each).1

module _ (number index position : ℕ) (slot : Slot) (before after : Pooled) (result : Option (Result (Option (List ℕ)) Refusal))
    (given : (page : PageBody) → found number slot before ≡ Some page → (row : Result (Option (List ℕ)) Refusal) × (result ≡ Some row) × IsRowUpTo position page index row × OnOk row (after ≡ used number before) × OnErr row (after ≡ before))
    (none : found number slot before ≡ None → (result ≡ None) × (after ≡ before)) where
  -- a row that was given is of a page that was kept
  of_kept : (o : Option PageBody) (row : Result (Option (List ℕ)) Refusal) → found number slot before ≡ o → result ≡ Some row
      → (page : PageBody) × (found number slot before ≡ Some page) × IsRowUpTo position page index row × OnOk row (after ≡ used number before) × OnErr row (after ≡ before)
  of_kept None row is came = let never : None ≡ Some row = sym (none is).0 ∙ came in absurd cc
  of_kept (Some page) row is came =
      let g = given page is in
      let same : g.0 ≡ row = let e : Some g.0 ≡ Some row = sym g.1 ∙ came in cc in
      (page, is, subst (IsRowUpTo position page index) same g.2, subst (λ (r : Result (Option (List ℕ)) Refusal). OnOk r (after ≡ used number before)) same g.3, subst (λ (r : Result (Option (List ℕ)) Refusal). OnErr r (after ≡ before)) same g.4)

  pub row_kept : (row : Result (Option (List ℕ)) Refusal) → result ≡ Some row → (page : PageBody) × (found number slot before ≡ Some page) × IsRowUpTo position page index row × OnOk row (after ≡ used number before) × OnErr row (after ≡ before)
  row_kept row came = of_kept (found number slot before) row refl came

  -- where none was given, nothing was kept
  not_of_kept : (o : Option PageBody) → found number slot before ≡ o → ((row : Result (Option (List ℕ)) Refusal) → result ≡ Some row → ⊥) → (found number slot before ≡ None) × (after ≡ before)
  not_of_kept None is never = (is, (none is).1)
  not_of_kept (Some page) is never = let g = given page is in absurd (never g.0 g.1)

  pub not_kept : ((row : Result (Option (List ℕ)) Refusal) → result ≡ Some row → ⊥) → (found number slot before ≡ None) × (after ≡ before)
  not_kept never = not_of_kept (found number slot before) refl never

-- the row of a kept page is the base's
pub given_row :
    PagesAreTold → (l : Layout) (h : History) (b : SuperBody) (number index : ℕ) (slot : Slot) (pages : Pooled) (page : PageBody) (row : Result (Option (List ℕ)) Refusal) → state_of_page b number ≡ In slot → found number slot pages ≡ Some page → IsRowUpTo b.position page index row → Agrees b.params.rows l h pages
    → IsRowOfPage (reading_of l (seen h)) b number index row
given_row told l h b number index slot pages page row there is up agrees = kept_row told (reading_of l (seen h)) b number index slot page row (found_spelled b.params.rows l h number slot pages page is agrees) there up

-- and the pool agrees as before
pub given_agrees : (rows : List ℕ) (l : Layout) (h : History) (number : ℕ) (before after : Pooled) (row : Result (Option (List ℕ)) Refusal) → OnOk row (after ≡ used number before) → OnErr row (after ≡ before) → Agrees rows l h before → Agrees rows l h after
given_agrees rows l h number before after (Ok row) was stays agrees = subst (Agrees rows l h) (sym was) (used_agrees rows l h number before agrees)
given_agrees rows l h number before after (Err e) was stays agrees = subst (Agrees rows l h) (sym stays) agrees

-- it is refused where it is of a later position
pub refused_kept : (position index : ℕ) (page : PageBody) (row : Result (Option (List ℕ)) Refusal) → IsRowUpTo position page index row → IfErr row (λ e. (e ≡ DiskFault) ⊎ (e ≡ Corrupt Pages))
refused_kept position index page (Ok row) up = tt
refused_kept position index page (Err e) up = inr up.later.0
