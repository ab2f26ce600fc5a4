-- What the call that writes a page of a snapshot does.
use Rattle.std.proofs.Common.{◌≡◌, refl, sym, ap, subst, ℕ, inl, inr, Bool, true, false, List, [], ◌∷◌, Result, OnOk, OnErr, IfErr}
use Rattle.std.specs.Prelude.{cond, nat_eq, Contains}
use Rattle.std.specs.Map.{remove_entry}
use Rattle.std.proofs.lemmas.List.Elements.{Contains-append_left, Contains-append_right, Contains-append_cases}
use Rattle.rep_types.specs.declared.refusal.Refusal.{Refusal}
use Rattle.rep_types.specs.declared.refusal.Refusal.TheVariants.{DiskFault}
use Rattle.rep_disk.specs.declared.disk.Disk.{Ghosts}
use Rattle.rep_layout.specs.declared.super_body.SuperBody.{SuperBody}
use Rattle.rep_layout.specs.declared.place.Layout.{Layout}
use Rattle.rep_layout.specs.declared.place.Slot.{Slot}
use Rattle.rep_layout.specs.declared.place.Place.TheVariants.{Page, Log}
use Rattle.rep_layout.specs.Places.{offset_of}
use Rattle.rep_layout.specs.Rows.{RowPlacesAreTold}
use Rattle.rep_cells.specs.States.{writing}
use Rattle.rep_cells.specs.Calls.{WritesOnly, WritesIn, StepsAt}
use Rattle.rep_pages.specs.declared.page.Page.{Page as PageBody}
use Rattle.rep_pages.specs.Rows.{Rows}
use Rattle.rep_pages.specs.Pages.{IsPageBody}
use Rattle.rep_pages.specs.Slots.{state_of_page, spare_slot}
use Rattle.rep_log.specs.Moves.{fault_of}
use Rattle.rep_pool.specs.declared.pool.Kept.{Kept}
use Rattle.rep_pool.specs.Pools.{Pooled, Agrees, IsFree, PoolsGoOn, without_page}
use Rattle.rep_pool.specs.BasePages.{GoesOn, GoesOnIf}
use Rattle.rep_checkpoint.specs.declared.stage.Part.TheVariants.{Flushing}
use Rattle.rep_checkpoint.specs.Pages.{PutsPage}
use Rattle.rep_checkpoint.specs.Coming.{Coming, IsComing, IsNewPage, placed}
use Rattle.rep_checkpoint.specs.Installing.{InstallsPage, coming_page}
use Rattle.rep_checkpoint.proofs.GoingOn.{if_ok, writes_as, reaches_as}
use Rattle.rep_checkpoint.proofs.Reading.{written_agrees}
use Rattle.rep_checkpoint.proofs.ComingPages.{is_within, page_stays, page_came}

-- ---- the page

-- it is written, and the snapshot stands as it did, and behind it with the page
pub comes :
    {D : Type 0} → RowPlacesAreTold → (g : Ghosts D) (l : Layout) (base : SuperBody) (page : ℕ) (rows : Rows) (before after : Coming) (body : PageBody) (old new : D) (result : Result (Unit {0}) Refusal)
    → IsComing base before.next → before.part ≡ Flushing → IsNewPage base before.next page rows → body ≡ coming_page before page rows → OnOk result (after ≡ placed base page before) → OnErr result (after ≡ before)
    → PutsPage g l base body (spare_slot (state_of_page base body.number)) old new (fault_of result) → IfErr result (λ e. e ≡ DiskFault) → InstallsPage g l base page rows before after old new result
comes {D} told g l base page rows before after body old new result coming due new_page body_is done failed puts only =
    let number_is : body.number ≡ page = ap (λ (p : PageBody). p.number) body_is in
    let put : PutsPage g l base body (spare_slot (state_of_page base page)) old new (fault_of result) = subst (λ n. PutsPage g l base body (spare_slot (state_of_page base n)) old new (fault_of result)) number_is puts in
    let written = subst (λ n. WritesOnly g (offset_of l (Page n (spare_slot (state_of_page base page)))) put.bytes old new (fault_of result)) number_is put.written in
    let steps = subst (λ n. StepsAt g l (Page n (spare_slot (state_of_page base page))) (writing put.bytes) old new (fault_of result)) number_is put.states in
    record {
      done = done;
      fault = failed;
      written = λ h. record { bytes = put.bytes; spelled = subst (λ (p : PageBody). IsPageBody base.params.rows p put.bytes) body_is put.is_page; size = put.size; writes = writes_as (offset_of l (Page page (spare_slot (state_of_page base page)))) put.bytes (g.history old) (g.history new) result only (written h) };
      steps = λ h size s x y assigns is.
          let step = steps h s assigns in
          record {
            states = step.after;
            elsewhere = λ n. step.moves.elsewhere (Log n) (λ e. absurd cc);
            during_is = page_stays size base before x y s step.after page new_page.new is step.moves.elsewhere;
            after_is = if_ok result _ (page_came size base before x y s step.after page new_page.new is step.moves.elsewhere rows due (is_within told base before.next page rows coming new_page) body put.bytes body_is put.is_page step.moves.there);
            reaches = reaches_as l (g.history old) (g.history new) step.after step.after result step.reaches;
          };
    }

-- ---- the pool

-- what is kept without a page was kept
was_kept : (test : ℕ → Bool) (pages : Pooled) (e : ℕ × Kept) → Contains (remove_entry test pages) e → Contains pages e
was_kept test [] e there = there
was_kept test (f ∷ pages) e there = by (test f.0) (was_kept test pages e) there
  where
    by : (b : Bool) → (Contains (remove_entry test pages) e → Contains pages e) → Contains (cond b pages (f ∷ remove_entry test pages)) e → Contains (f ∷ pages) e
    by true rest is = Contains-append_right (f ∷ []) pages e is
    by false rest is = elim (Contains-append_cases (f ∷ []) (remove_entry test pages) e is) [
      | inl here ↦ Contains-append_left (f ∷ []) pages e here
      | inr later ↦ Contains-append_right (f ∷ []) pages e (rest later)
    ]

-- a pool that keeps nothing more of the page agrees with the device behind the page's write
pub forgotten_agrees :
    {D : Type 0} → PoolsGoOn → (g : Ghosts D) (rows : List ℕ) (l : Layout) (old new : D) (before after : Pooled) (number : ℕ) (slot : Slot) (result : Result (Unit {0}) Refusal)
    → (g.honest new → g.honest old) → after ≡ without_page number before → IsFree (Page number slot) after → WritesIn g l (Page number slot) old new (fault_of result) → IfErr result (λ e. e ≡ DiskFault) → GoesOnIf g rows l old new before after result
forgotten_agrees go g rows l old new before after number slot result was without free inside only =
    written_agrees go g rows l old old new before after number (Page number slot) slot result was goes free refl inside only
  where
    goes : GoesOn g rows l old old before after
    goes pooled h = subst (Agrees rows l (g.history old)) (sym without) (record {
      fits = (pooled h).fits;
      unfailed = (pooled h).unfailed;
      each = λ n kept there. (pooled h).each n kept (was_kept (nat_eq number) before (n, kept) there);
    })
