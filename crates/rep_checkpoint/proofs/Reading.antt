-- A page that is read, and written elsewhere.
use Rattle.std.proofs.Common.{◌≡◌, ◌≢◌, refl, sym, ap, subst, ◌∙◌, ℕ, inl, inr, List, replicate, Option, Some, Result, Ok, Err, IfOk, IfErr, OnOk, arith}
use Rattle.std.proofs.lemmas.List.{length-replicate}
use Rattle.rep_types.specs.declared.key.Key.{Key}
use Rattle.rep_types.specs.declared.refusal.Refusal.{Refusal}
use Rattle.rep_types.specs.declared.refusal.Refusal.TheVariants.{DiskFault, Corrupt}
use Rattle.rep_types.specs.declared.refusal.Part.TheVariants.{Pages}
use Rattle.rep_disk.specs.declared.disk.Disk.{Ghosts}
use Rattle.rep_disk.specs.History.{History, Wrote, seen, IsImage as IsImageOf}
use Rattle.rep_disk.specs.Moments.{LeavesOnly}
use Rattle.rep_layout.specs.declared.super_body.SuperBody.{SuperBody}
use Rattle.rep_layout.specs.declared.page_state.PageState.TheVariants.{In}
use Rattle.rep_layout.specs.declared.place.Layout.{Layout}
use Rattle.rep_layout.specs.declared.place.Slot.{Slot}
use Rattle.rep_layout.specs.declared.place.Place.{Place}
use Rattle.rep_layout.specs.declared.place.Place.TheVariants.{Page}
use Rattle.rep_layout.specs.Places.{offset_of, layout_of}
use Rattle.rep_layout.specs.Supers.{IsSuper}
use Rattle.rep_layout.specs.Rows.{row_place}
use Rattle.rep_cells.specs.Readings.{IsPlace, reading_of}
use Rattle.rep_cells.specs.States.{State, States, Stable, Shows, writing}
use Rattle.rep_cells.specs.Known.{Assigns}
use Rattle.rep_cells.specs.Calls.{Writes, WritesOnly, WritesIn, StepsAt, Stepped}
use Rattle.rep_cells.specs.Laws.{ImagesReadAsAllowed, PlacesReadAsShown}
use Rattle.rep_versions.specs.Versions.{Kept}
use Rattle.rep_log.specs.Moves.{fault_of}
use Rattle.rep_pages.specs.declared.page.Page.{Page as PageBody}
use Rattle.rep_pages.specs.Slots.{state_of_page, spare_slot}
use Rattle.rep_pages.specs.Pages.{IsPageBody, IsFirstRow, IsPage, PagesAreTold}
use Rattle.rep_pages.specs.Images.{row_of, IsImage}
use Rattle.rep_pool.specs.Pools.{Pooled, IsFree, PoolsGoOn}
use Rattle.rep_pool.specs.BasePages.{HasPage, GivesPage, IsPooled, GoesOn, GoesOnIf, PagesArePlaces}
use Rattle.rep_checkpoint.specs.Calls.{AreAt, WritesImage}
use Rattle.rep_checkpoint.specs.Laws.{StableBasesAreRead}
use Rattle.rep_checkpoint.specs.Pages.{AreRows, PutsPage, IsPageAt, MovesPage}
use Rattle.rep_checkpoint.proofs.GoingOn.{writes_as, reaches_as}
use Rattle.rep_checkpoint.proofs.Spelled.{not_bad}

-- ---- a page of the base

module _ (shown : PlacesReadAsShown) (places : PagesArePlaces) where
  -- what a page's place reads as, where its bytes are stable
  stable_reads : (l : Layout) (h : History) (b : SuperBody) (s : States) (number : ℕ) (slot : Slot) (body bytes : List ℕ) → IsSuper b → l ≡ layout_of b.params → Assigns l h s → state_of_page b number ≡ In slot → s (Page number slot) ≡ Stable body
      → reading_of l (seen h) (Page number slot) ≡ Some bytes → bytes ≡ body
  stable_reads l h b s number slot body bytes super here assigns there is reads =
      let place : IsPlace l (Page number slot) = subst (λ (k : Layout). IsPlace k (Page number slot)) (sym here) (places b super number slot there) in
      let shows : Some bytes ≡ Some body = sym reads ∙ subst (λ (state : State). Shows state (reading_of l (seen h) (Page number slot))) is (shown l h s (Page number slot) assigns place) in
      cc

  -- what is read of a base that stands is its content, and of the form
  pub stable_read : PagesAreTold → StableBasesAreRead
  stable_read told = record {
    rows = λ l h b s content number page super here assigns have has key row there. elim has [
      | inl is ↦ (
          let stands = have.pages number is.slot is.there in
          let same : is.body ≡ stands.0 = stable_reads l h b s number is.slot stands.0 is.body super here assigns is.there stands.1 is.shown in
          let page_is : stands.2.page ≡ page = told b.params.rows stands.2.page page stands.0 stands.2.is_page (subst (IsPageBody b.params.rows page) same is.is_page) in
          subst (AreRows b.params.rows number content) page_is stands.2.rows key row there)
      | inr is ↦ have.absent key row (ap (state_of_page b) there ∙ is.nowhere) ∙ sym (is.rows (row_place b.params.rows key).index)
    ];
    whole = λ l h b s content number super here assigns have bad.
        let stands = have.pages number bad.slot bad.there in
        let same : bad.body ≡ stands.0 = stable_reads l h b s number bad.slot stands.0 bad.body super here assigns bad.there stands.1 bad.shown in
        bad.none stands.2.page (subst (IsPageBody b.params.rows stands.2.page) (sym same) stands.2.is_page) stands.2.is_it stands.2.earlier;
  }

-- ---- a page that is written elsewhere

same_moments : (h : History) → LeavesOnly h h (IsImageOf h)
same_moments h = record { later = omega arith; since = λ t image le since. inl since }

-- it wasn't read
pub not_read :
    {D : Type 0} → ImagesReadAsAllowed → StableBasesAreRead → (g : Ghosts D) (l : Layout) (b : SuperBody) (kept : Kept) (position number : ℕ) (old new : D) (pool : Pooled) (result : Result PageBody Refusal) (e : Refusal)
    → IsSuper b → l ≡ layout_of b.params → IsPooled g b.params.rows l old pool → (g.honest old → g.history new ≡ g.history old) → GivesPage g l b number old pool result → result ≡ Err e → MovesPage {T = Unit {0}} g l b kept position number old new (Err e)
not_read allowed stable_base g l b kept position number old new pool result e super here pooled same gives is = record {
  written = λ h. record { bytes = replicate 4096 0; size = length-replicate {A = ℕ} 4096 0; writes = record { done = tt; failed = inl (same h) } };
  puts = λ h s x y assigns have at. record {
    states = s;
    elsewhere = λ other apart. refl;
    there = tt;
    reaches = record {
      ok = tt;
      images = λ image stands. allowed l (g.history old) s image assigns (subst (λ (k : History). IsImageOf k image) (same h) stands);
      moments = subst (λ (k : History). LeavesOnly (g.history old) k (IsImageOf k)) (sym (same h)) (same_moments (g.history old));
    };
  };
  whole = λ h s content assigns have f. stable_base.whole l (g.history old) b s content number super here assigns have ((gives h (pooled h)).corrupt (is ∙ ap Err (same_error f)));
  spelled = λ h readable. record {
    done = tt;
    bad = λ bad. refl;
    corrupt = λ f. ((gives h (pooled h)).corrupt (is ∙ ap Err (same_error f)), same h);
  };
}
  where
    same_error : {f : Refusal} → ◌≡◌ {A = Result (Unit {0}) Refusal} (Err e) (Err f) → e ≡ f
    same_error p = cc

-- the page at the position, in bytes
page_at : (b : SuperBody) (kept : Kept) (position number : ℕ) (x y : Key → Option (List ℕ)) (old page : PageBody) (bytes : List ℕ) → old.number ≡ number → AreRows b.params.rows number x old → AreAt b.params.rows kept position x y
    → IsImage b.params.rows kept position old page → IsPageBody b.params.rows page bytes → IsPageAt b.params.rows number position y bytes
page_at b kept position number x y old page bytes number_is rows at image is = record {
  page = page;
  is_page = is;
  is_it = image.number ∙ number_is;
  at = image.there;
  rows_are = λ key row there.
      let here = image.rows key row (there ∙ sym number_is) in
      sym (at.row key (row_of b.params.rows page.rows key) row (subst (λ below. Rattle.rep_versions.specs.Versions.IsRowAt kept key position below (row_of b.params.rows page.rows key)) (sym (rows key row there)) here));
}

pub image_is_page : (rows : List ℕ) (kept : Kept) (position number : ℕ) (old page : PageBody) (first : Key) → old.number ≡ number → IsImage rows kept position old page → IsFirstRow rows number first → IsPage rows first page
image_is_page rows kept position number old page first number_is image begins = record {
  begins = subst (λ n. IsFirstRow rows n first) (sym (image.number ∙ number_is)) begins;
  size = image.size;
  past = subst (λ n. Rattle.rep_pages.specs.Pages.EndWithTheTable rows n page.rows) (sym image.number) image.past;
}

never_corrupt : (result : Result (Unit {0}) Refusal) → IfErr result (λ e. e ≡ DiskFault) → result ≢ Err (Corrupt Pages)
never_corrupt (Ok x) only e = absurd cc
never_corrupt (Err e) only f = absurd cc

pub moved :
    {D : Type 0} → StableBasesAreRead → (g : Ghosts D) (l : Layout) (b : SuperBody) (kept : Kept) (position number : ℕ) (old mid new : D) (pool : Pooled) (read : Result PageBody Refusal) (was page : PageBody) (result : Result (Unit {0}) Refusal)
    → IsSuper b → l ≡ layout_of b.params → IsPooled g b.params.rows l old pool → (g.honest old → g.honest mid) → (g.honest old → g.history mid ≡ g.history old) → was.number ≡ number → GivesPage g l b number old pool read → read ≡ Ok was → IsImage b.params.rows kept position was page
    → PutsPage g l b page (spare_slot (state_of_page b page.number)) mid new (fault_of result) → IfErr result (λ e. e ≡ DiskFault) → MovesPage g l b kept position number old new result
moved {D} stable_base g l b kept position number old mid new pool read was page result super here pooled stays same is_it gives is image puts only =
    let number_is : page.number ≡ number = image.number ∙ is_it in
    let has : g.honest old → HasPage (reading_of l (seen (g.history old))) b number was = λ h.
    subst (λ (r : Result PageBody Refusal). IfOk r (HasPage (reading_of l (seen (g.history old))) b number)) is (gives h (pooled h)).page in
    let written = subst (λ n. WritesOnly g (offset_of l (Page n (spare_slot (state_of_page b n)))) puts.bytes mid new (fault_of result)) number_is puts.written in
    let states = subst (λ n. StepsAt g l (Page n (spare_slot (state_of_page b n))) (writing puts.bytes) mid new (fault_of result)) number_is puts.states in
    let wrote : g.honest old → Writes (offset_of l (Page number (spare_slot (state_of_page b number)))) puts.bytes (g.history old) (g.history new) result = λ h.
    let w = subst (λ (k : History). Writes (offset_of l (Page number (spare_slot (state_of_page b number)))) puts.bytes k (g.history new) (fault_of result)) (same h) (written (stays h)) in
    writes_as (offset_of l (Page number (spare_slot (state_of_page b number)))) puts.bytes (g.history old) (g.history new) result only w in
    record {
      written = λ h. record { bytes = puts.bytes; size = puts.size; writes = wrote h };
      puts = λ h s x y assigns have at.
          let step = subst (λ (k : History). Stepped l k (g.history new) s (Page number (spare_slot (state_of_page b number))) (writing puts.bytes) (fault_of result)) (same h) (states (stays h) s (subst (λ (k : History). Assigns l k s) (sym (same h)) assigns)) in
          record {
            states = step.after;
            elsewhere = step.moves.elsewhere;
            there = all_ok result (puts.bytes, step.moves.there, page_at b kept position number x y was page puts.bytes is_it (stable_base.rows l (g.history old) b s x number was super here assigns have (has h)) at image puts.is_page);
            reaches = reaches_as l (g.history old) (g.history new) step.after step.after result step.reaches;
          };
      whole = λ h s content assigns have. never_corrupt result only;
      spelled = λ h readable. record {
        done = then_ok result (g.history new ≡ Wrote (offset_of l (Page number (spare_slot (state_of_page b number)))) puts.bytes (g.history old)) (WritesImage l b kept position number (g.history old) (g.history new))
            (λ is_written. record { was = was; has = has h; page = page; image = image; bytes = puts.bytes; spelled = puts.is_page; written = is_written }) (wrote h).done;
        bad = λ bad. absurd (not_bad (reading_of l (seen (g.history old))) b number was (has h) bad);
        corrupt = λ e. absurd (never_corrupt result only e);
      };
    }
  where
    all_ok : {P : Type 0} (r : Result (Unit {0}) Refusal) → P → OnOk r P
    all_ok (Ok x) h = h
    all_ok (Err e) h = tt

    then_ok : (r : Result (Unit {0}) Refusal) (P Q : Type 0) → (P → Q) → OnOk r P → OnOk r Q
    then_ok (Ok x) P Q f h = f h
    then_ok (Err e) P Q f h = tt

-- ---- the pool

-- a pool that a page was taken of agrees with the device behind the page's write
pub written_agrees :
    {D : Type 0} → PoolsGoOn → (g : Ghosts D) (rows : List ℕ) (l : Layout) (old mid new : D) (before after : Pooled) (number : ℕ) (place : Place) (slot : Slot) (result : Result (Unit {0}) Refusal)
    → (g.honest new → g.honest mid) → GoesOn g rows l old mid before after → IsFree (Page number slot) after → place ≡ Page number slot → WritesIn g l place mid new (fault_of result) → IfErr result (λ e. e ≡ DiskFault)
    → GoesOnIf g rows l old new before after result
written_agrees go g rows l old mid new before after number place slot (Ok x) was goes free at inside only = λ no pooled h.
    go.written rows l (g.history mid) (g.history new) after place (inside (was h)) (subst (λ (p : Place). IsFree p after) (sym at) free) (goes pooled (was h))
written_agrees go g rows l old mid new before after number place slot (Err e) was goes free at inside only = λ no pooled h. absurd (no (ap Err only))
