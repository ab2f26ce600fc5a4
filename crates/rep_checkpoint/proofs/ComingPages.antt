-- A page of a snapshot that comes.
use Rattle.std.proofs.Common.{◌≡◌, ◌≢◌, sym, ap, subst, ◌∙◌, ℕ, ◌<◌, inl, inr, Bool, true, false, List, length, arith}
use Rattle.std.specs.Prelude.{cond}
use Rattle.std.proofs.lemmas.Bool.{cases_eq}
use Rattle.std.proofs.lemmas.Bool.Decides.{nat_tests}
use Rattle.std.proofs.lemmas.List.{get_or-set_same, get_or-set_other, length-set}
use Rattle.rep_types.specs.declared.key.Key.{Key}
use Rattle.rep_types.specs.Settings.{Setting, IsRow, pages_of}
use Rattle.rep_types.specs.Order.{State}
use Rattle.rep_layout.specs.declared.super_body.SuperBody.{SuperBody}
use Rattle.rep_layout.specs.declared.page_state.PageState.TheVariants.{Nowhere, In}
use Rattle.rep_layout.specs.declared.rows.RowPlace.{RowPlace}
use Rattle.rep_layout.specs.declared.place.Slot.{Slot}
use Rattle.rep_layout.specs.declared.place.Place.{Place}
use Rattle.rep_layout.specs.declared.place.Place.TheVariants.{Page}
use Rattle.rep_layout.specs.Rows.{row_place, RowPlacesAreTold}
use Rattle.rep_layout.specs.Supers.{super_bytes}
use Rattle.rep_cells.specs.States.{States, Pending}
use Rattle.rep_pages.specs.declared.page.Page.{Page as PageBody}
use Rattle.rep_pages.specs.Rows.{Rows}
use Rattle.rep_pages.specs.Images.{row_of}
use Rattle.rep_pages.specs.Pages.{IsPageBody}
use Rattle.rep_pages.specs.Slots.{state_of_page, spare_slot}
use Rattle.rep_image.specs.Bases.{IsPageOf}
use Rattle.rep_checkpoint.specs.declared.stage.Part.{Part}
use Rattle.rep_checkpoint.specs.declared.stage.Part.TheVariants.{Flushing}
use Rattle.rep_checkpoint.specs.Next.{Next, is_in}
use Rattle.rep_checkpoint.specs.Standing.{spare_side}
use Rattle.rep_checkpoint.specs.States.{IsFar, IsFlushing, IsWritten, cell_in}
use Rattle.rep_checkpoint.specs.Coming.{Coming, IsComing, IsNewPage, InstallationIs, placed_in, placed, is_of_page, with_page}
use Rattle.rep_checkpoint.proofs.Frames.{page_number, PagesStay, far_as}
use Rattle.rep_checkpoint.proofs.Flushing.{base_stays}

-- ---- where its superblock has a page

-- the one that came lies in the slot that the base doesn't use
placed_here : (base b : SuperBody) (page : ℕ) → page < length b.pages.items → state_of_page (placed_in base page b) page ≡ In (spare_slot (state_of_page base page))
placed_here base b page lt = get_or-set_same b.pages.items page (In (spare_slot (state_of_page base page))) Nowhere lt

-- and each other where it lay
placed_there : (base b : SuperBody) (page number : ℕ) → number ≢ page → state_of_page (placed_in base page b) number ≡ state_of_page b number
placed_there base b page number apart = get_or-set_other b.pages.items page number (In (spare_slot (state_of_page base page))) Nowhere apart

-- the page is one of its pages
pub is_within : RowPlacesAreTold → (base : SuperBody) (next : Next) (page : ℕ) (rows : Rows) → IsComing base next → IsNewPage base next page rows → page < length next.super.pages.items
is_within told base next page rows coming new =
    let lt = told.within base.params.rows new.first new.begins.row in
    let there = ap (λ (p : RowPlace). p.page) new.begins.there in
    let pages = coming.is_super.pages ∙ ap (λ (p : Setting). pages_of p.rows) coming.params in
    omega (arith, lt, there, pages)

-- it still can follow the base
pub coming_placed : (base : SuperBody) (next : Next) (page : ℕ) → page < length next.super.pages.items → IsComing base next → IsComing base (record next { super = placed_in base page next.super })
coming_placed base next page lt h = record {
  is_super = record {
    number = h.is_super.number;
    uuid = h.is_super.uuid;
    undefined = h.is_super.undefined;
    setting = h.is_super.setting;
    position = h.is_super.position;
    start = h.is_super.start;
    pages = length-set next.super.pages.items page (In (spare_slot (state_of_page base page))) ∙ h.is_super.pages;
  };
  number = h.number;
  params = h.params;
  defined = h.defined;
  is_window = h.is_window;
  none = h.none;
  turned = λ number. elim (cases_eq number page) [
    | inl same ↦ inr (ap (state_of_page (placed_in base page next.super)) same ∙ placed_here base next.super page lt ∙ ap (λ n. In (spare_slot (state_of_page base n))) (sym same))
    | inr other ↦ elim (h.turned number) [
      | inl nowhere ↦ inl (placed_there base next.super page number other ∙ nowhere)
      | inr there ↦ inr (placed_there base next.super page number other ∙ there)
    ]
  ];
}

-- ---- the rows that it brings

module _ (schema : List ℕ) (page : ℕ) (rows : Rows) (y : State) (key : Key) where
  -- those of the page
  row_here : IsRow schema key → (row_place schema key).page ≡ page → (with_page schema page rows y).content key ≡ row_of schema rows key
  row_here row there =
      let is : is_of_page schema page key ≡ true = grind (arith, nat_tests, row, there) in
      ap (λ (b : Bool). cond b (row_of schema rows key) (y.content key)) is

  -- and of each other those that it had
  row_there : (row_place schema key).page ≢ page → (with_page schema page rows y).content key ≡ y.content key
  row_there apart =
      let is : is_of_page schema page key ≡ false = grind (arith, nat_tests, apart) in
      ap (λ (b : Bool). cond b (row_of schema rows key) (y.content key)) is

  -- and so of what is no row
  no_row : (IsRow schema key → ⊥) → (with_page schema page rows y).content key ≡ y.content key
  no_row none =
      let is : is_of_page schema page key ≡ false = grind (arith, nat_tests, none) in
      ap (λ (b : Bool). cond b (row_of schema rows key) (y.content key)) is

-- ---- in the states

module _ (size : ℕ) (base : SuperBody) (i : Coming) (x y : State) (s t : States) (page : ℕ) (new : state_of_page i.next.super page ≡ Nowhere) (is : InstallationIs size base i x y s)
    (elsewhere : (other : Place) → other ≢ Page page (spare_slot (state_of_page base page)) → t other ≡ s other) where
  -- the pages that came before it stay
  others_stay : PagesStay i.next.super s t
  others_stay number slot there = elsewhere _ apart
    where
      apart : Page number slot ≢ Page page (spare_slot (state_of_page base page))
      apart e = let never : Nowhere ≡ In slot = sym new ∙ ap (state_of_page i.next.super) (sym (ap page_number e)) ∙ there in absurd cc

  -- the snapshot stands as it did, whatever is written there
  pub page_stays : InstallationIs size base i x y t
  page_stays = record {
    stands = base_stays size base x s t page is.stands elsewhere;
    coming = is.coming;
    position = is.position;
    kept = is.kept;
    far = far_as i.part (spare_side base) i.next y s t (elsewhere _ (λ e. absurd cc)) others_stay is.far;
    cell = elsewhere _ (λ e. absurd cc) ∙ is.cell;
  }

  module _ (rows : Rows) (due : i.part ≡ Flushing) (lt : page < length i.next.super.pages.items) (body : PageBody) (bytes : List ℕ) (body_is : body ≡ record { number = page; position = i.next.super.position; rows = rows })
      (spelled : IsPageBody base.params.rows body bytes) (there : t (Page page (spare_slot (state_of_page base page))) ≡ Pending bytes) where
    abbrev b : SuperBody
    b = i.next.super

    abbrev z : State
    z = with_page b.params.rows page rows y

    abbrev after : Next
    after = record i.next { super = placed_in base page b }

    -- the pages that came before
    was : IsFlushing i.next y t
    was = subst (λ (part : Part). IsFar part (spare_side base) i.next y t) due page_stays.far

    -- the page is one of the snapshot's, of these rows
    page_of : IsPageOf after.super page z.content bytes
    page_of = record {
      page = body;
      is_page = subst (λ (p : Setting). IsPageBody p.rows body bytes) (sym is.coming.params) spelled;
      is_it = ap (λ (p : PageBody). p.number) body_is;
      earlier = omega (arith, ap (λ (p : PageBody). p.position) body_is);
      rows = λ key row at. row_here b.params.rows page rows y key row at ∙ ap (λ (p : PageBody). row_of b.params.rows p.rows key) (sym body_is);
    }

    -- it was written
    this_page : (number : ℕ) (slot : Slot) → number ≡ page → state_of_page after.super number ≡ In slot → (bs : List ℕ) × IsWritten bs (t (Page number slot)) × IsPageOf after.super number z.content bs
    this_page number slot same at =
        let turned : In slot ≡ In (spare_slot (state_of_page base page)) = sym at ∙ ap (state_of_page after.super) same ∙ placed_here base b page lt in
        let slot_is : slot ≡ spare_slot (state_of_page base page) = cc in (
          bytes,
          subst (λ n. IsWritten bytes (t (Page n slot))) (sym same) (subst (λ (sl : Slot). IsWritten bytes (t (Page page sl))) (sym slot_is) (inl there)),
          subst (λ n. IsPageOf after.super n z.content bytes) (sym same) page_of,
        )

    -- and so was each other, of the rows that it had
    other_page : (number : ℕ) (slot : Slot) → number ≢ page → state_of_page after.super number ≡ In slot → (bs : List ℕ) × IsWritten bs (t (Page number slot)) × IsPageOf after.super number z.content bs
    other_page number slot apart at =
        let p = was.pages number slot (ap (λ left. is_in left number) is.coming.none) (sym (placed_there base b page number apart) ∙ at) in (
          p.0,
          p.1,
          record {
            page = p.2.page;
            is_page = p.2.is_page;
            is_it = p.2.is_it;
            earlier = p.2.earlier;
            rows = λ key row here. row_there b.params.rows page rows y key (λ e. apart (sym here ∙ e)) ∙ p.2.rows key row here;
          },
        )

    -- so all that came were
    flushing : IsFlushing after z t
    flushing = record {
      pages = λ number slot out at. elim (cases_eq number page) [
        | inl same ↦ this_page number slot same at
        | inr apart ↦ other_page number slot apart at
      ];
      absent = λ key row nowhere.
          let apart : (row_place b.params.rows key).page ≢ page = λ e. (let never : Nowhere ≡ In (spare_slot (state_of_page base page)) = sym nowhere ∙ ap (state_of_page after.super) e ∙ placed_here base b page lt in absurd cc) in
          row_there b.params.rows page rows y key apart ∙ was.absent key row (sym (placed_there base b page _ apart) ∙ nowhere);
      outside = λ key none. no_row b.params.rows page rows y key none ∙ was.outside key none;
    }

    -- the snapshot stands with the page, and brings its rows
    pub page_came : InstallationIs size base (placed base page i) x (with_page base.params.rows page rows y) t
    page_came = record {
      stands = page_stays.stands;
      coming = coming_placed base i.next page lt is.coming;
      position = is.position;
      kept = is.kept;
      far = subst (λ (part : Part). IsFar part (spare_side base) after (with_page base.params.rows page rows y) t) (sym due) (subst (λ (p : Setting). IsFlushing after (with_page p.rows page rows y) t) is.coming.params flushing);
      cell = page_stays.cell ∙ ap (λ (part : Part). cell_in part (super_bytes b)) due ∙ ap (λ (part : Part). cell_in part (super_bytes after.super)) (sym due);
    }
