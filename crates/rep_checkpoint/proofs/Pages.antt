-- Pages that are left, and where the next superblock has each.
use Rattle.std.proofs.Common.{◌≡◌, refl, sym, ap, ◌∙◌, ℕ, zero, suc, ◌/◌, ◌*◌, ◌<◌, ◌⊎◌, inl, inr, Bool, true, false, not, eqb, List, [], ◌∷◌, ◌++◌, length, filter, arith, length-append}
use Rattle.std.specs.Prelude.{slice_index_or, Contains, ◌==◌}
use Rattle.std.specs.Prelude.{◌||◌}
use Rattle.std.proofs.lemmas.Bool.{cases_eq, cases_lt, eqb-true, ne_eqb}
use Rattle.std.proofs.lemmas.List.{get_or_append_left, get_or_past}
use Rattle.std.proofs.Math.Seq.{get_or-append_seam}
use Rattle.rep_types.specs.declared.key.Key.{Key}
use Rattle.rep_types.specs.Settings.{IsRow}
use Rattle.rep_types.proofs.Choices.{or_cases, or_right}
use Rattle.rep_layout.specs.declared.page_state.PageState.{PageState}
use Rattle.rep_layout.specs.declared.page_state.PageState.TheVariants.{Nowhere}
use Rattle.rep_layout.specs.Rows.{row_place}
use Rattle.rep_layout.specs.declared.super_body.SuperBody.{SuperBody}
use Rattle.rep_pages.specs.Slots.{state_of_page}
use Rattle.rep_pages.specs.Pages.{place, IsFirstRow}
use Rattle.rep_checkpoint.specs.Next.{is_in}
use Rattle.rep_checkpoint.specs.Moves.{turn, turned, next_super}

-- ---- whether a page is one of some

-- it stands among them
pub contains_in : (pages : List ℕ) (page : ℕ) → is_in pages page ≡ true → Contains pages page
contains_in [] page e = absurd cc
contains_in (p ∷ pages) page e = elim (or_cases (eqb p page) (is_in pages page) e) [
  | inl here ↦ (0, omega arith, eqb-true p page here)
  | inr there ↦ (let c = contains_in pages page there in (suc c.0, omega (arith, c.1), c.2))
]

pub in_contains : (pages : List ℕ) (page : ℕ) → Contains pages page → is_in pages page ≡ true
in_contains pages page c = at pages c.0 c.1 c.2
  where
    at : (ps : List ℕ) (k : ℕ) → k < length ps → slice_index_or ps k page ≡ page → is_in ps page ≡ true
    at [] k lt e = absurd (omega (arith, lt))
    at (p ∷ ps) zero lt e = rw e (here (is_in ps page))
      where
        here : (b : Bool) → (eqb page page || b) ≡ true
        here b = grind arith
    at (p ∷ ps) (suc k) lt e = or_right (eqb p page) (is_in ps page) (at ps k (omega (arith, lt)) e)

abbrev others : List ℕ → ℕ → List ℕ
others pages done = filter (λ (p : ℕ). not (p == done)) pages

others_more : (p : ℕ) (pages : List ℕ) (done page : ℕ) (b : Bool) → (page ≡ done → ⊥) → eqb p done ≡ b → is_in pages page ≡ is_in (others pages done) page → is_in (p ∷ pages) page ≡ is_in (others (p ∷ pages) done) page
others_more p pages done page true other is same =
    let away : eqb p page ≡ false = ne_eqb p page (λ at. other (sym at ∙ eqb-true p done is)) in
    rw is (rw away same)
others_more p pages done page false other is same = rw is (ap (λ (b : Bool). eqb p page || b) same)

is_in_others : (pages : List ℕ) (done page : ℕ) → (page ≡ done → ⊥) → is_in pages page ≡ is_in (others pages done) page
is_in_others [] done page other = refl
is_in_others (p ∷ pages) done page other = others_more p pages done page (eqb p done) other refl (is_in_others pages done page other)

-- a page that isn't left once this one was flushed is this one, or wasn't left
pub not_left : (pages : List ℕ) (done page : ℕ) → is_in (others pages done) page ≡ false → (page ≡ done) ⊎ (is_in pages page ≡ false)
not_left pages done page e = elim (cases_eq page done) [
  | inl same ↦ inl same
  | inr other ↦ inr (is_in_others pages done page other ∙ e)
]

-- what is left then was left
was_more : (p : ℕ) (pages : List ℕ) (done page : ℕ) (b : Bool) → eqb p done ≡ b → (is_in (others pages done) page ≡ true → is_in pages page ≡ true) → is_in (others (p ∷ pages) done) page ≡ true → is_in (p ∷ pages) page ≡ true
was_more p pages done page true is was e = or_right (eqb p page) (is_in pages page) (was (rw is at e))
was_more p pages done page false is was e = elim (or_cases (eqb p page) (is_in (others pages done) page) (rw is at e)) [
  | inl here ↦ rw here refl
  | inr there ↦ or_right (eqb p page) (is_in pages page) (was there)
]

pub was_left : (pages : List ℕ) (done page : ℕ) → is_in (others pages done) page ≡ true → is_in pages page ≡ true
was_left [] done page e = absurd cc
was_left (p ∷ pages) done page e = was_more p pages done page (eqb p done) refl (was_left pages done page) e

-- ---- the slots of the next superblock

pub length_turned : (n : ℕ) (states : List PageState) (left : List ℕ) → length (turned n states left) ≡ n
length_turned zero states left = refl
length_turned (suc n) states left = omega (arith, length-append (turned n states left) (turn (slice_index_or states n Nowhere) (is_in left n) ∷ []), length_turned n states left)

turned_at : (n : ℕ) (states : List PageState) (left : List ℕ) (page : ℕ) → page < n → slice_index_or (turned n states left) page Nowhere ≡ turn (slice_index_or states page Nowhere) (is_in left page)
turned_at zero states left page lt = absurd (omega (arith, lt))
turned_at (suc n) states left page lt = elim (cases_lt page n) [
  | inl below ↦ get_or_append_left (turned n states left) (turn (slice_index_or states n Nowhere) (is_in left n) ∷ []) Nowhere page (omega (arith, below, length_turned n states left)) ∙ turned_at n states left page below
  | inr above ↦ (
      let same : n ≡ page = omega (arith, lt, above) in
      let last = turn (slice_index_or states n Nowhere) (is_in left n) in
      ap (λ i. slice_index_or (turned n states left ++ last ∷ []) i Nowhere) (sym same ∙ sym (length_turned n states left))
      ∙ get_or-append_seam (turned n states left) last [] Nowhere ∙ ap (λ i. turn (slice_index_or states i Nowhere) (is_in left i)) same)
]

-- where the next superblock has a page of the base's
pub turned_state : (b : SuperBody) (position start : ℕ) (left : List ℕ) (page : ℕ) → page < length b.pages.items → state_of_page (next_super b position start left) page ≡ turn (state_of_page b page) (is_in left page)
turned_state b position start left page lt = turned_at (length b.pages.items) b.pages.items left page lt

-- a page that isn't flushed stays where it is
pub stays : (b : SuperBody) (position start : ℕ) (left : List ℕ) (page : ℕ) → is_in left page ≡ false → state_of_page (next_super b position start left) page ≡ state_of_page b page
stays b position start left page is = elim (cases_lt page (length b.pages.items)) [
  | inl below ↦ turned_state b position start left page below ∙ ap (turn (state_of_page b page)) is
  | inr above ↦ get_or_past (turned (length b.pages.items) b.pages.items left) page Nowhere (omega (arith, above, length_turned (length b.pages.items) b.pages.items left)) ∙ sym (get_or_past b.pages.items page Nowhere above)
]

-- ---- rows

-- a page with a row has a first one
pub first_row : (rows : List ℕ) (key : Key) (page : ℕ) → IsRow rows key → (row_place rows key).page ≡ page → (first : Key) × IsFirstRow rows page first
first_row rows key page row there =
    let first : Key = record { table = key.table; row = 63 * (key.row / 63) } in
    let page_is : (row_place rows first).page ≡ page = omega (arith, there) in
    let index_is : (row_place rows first).index ≡ 0 = omega arith in
    let place_is : row_place rows first ≡ place page 0 = λ i. record { page = page_is i; index = index_is i } in
    (first, record { row = omega (arith, row); there = place_is })
