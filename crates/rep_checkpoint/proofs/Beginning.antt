-- How a checkpoint begins.
use Rattle.std.proofs.Common.{◌≡◌, refl, sym, ap, subst, ◌∙◌, ℕ, ◌<◌, ◌≤◌, ◌⊎◌, inl, inr, Bool, true, false, List, length, Option, None, Some, IsSome, arith}
use Rattle.std.proofs.lemmas.Bool.{cases_lt}
use Rattle.rep_types.specs.declared.key.Key.{Key}
use Rattle.rep_types.specs.Windows.{Window as WindowOf}
use Rattle.rep_types.specs.Settings.{pages_of, IsRow}
use Rattle.rep_types.specs.Order.{State}
use Rattle.rep_layout.specs.declared.super_body.SuperBody.{SuperBody}
use Rattle.rep_layout.specs.declared.page_state.PageState.TheVariants.{Nowhere}
use Rattle.rep_layout.specs.Rows.{row_place, RowPlacesAreTold}
use Rattle.rep_layout.specs.Supers.{IsSuper}
use Rattle.rep_cells.specs.States.{States}
use Rattle.rep_versions.specs.Versions.{Kept, Version, version_at, HasChange, ArePages}
use Rattle.rep_pages.specs.Slots.{state_of_page}
use Rattle.rep_pages.specs.Pages.{IsFirstRow}
use Rattle.rep_checkpoint.specs.declared.stage.Part.TheVariants.{Flushing}
use Rattle.rep_checkpoint.specs.declared.stage.Stage.{Stage}
use Rattle.rep_checkpoint.specs.declared.stage.Stage.TheVariants.{Off, Toward}
use Rattle.rep_checkpoint.specs.Next.{Next, is_in}
use Rattle.rep_checkpoint.specs.Standing.{Standing, IsNext}
use Rattle.rep_checkpoint.specs.Moves.{CanBegin, turn, next_super, next_of, begun}
use Rattle.rep_checkpoint.specs.States.{CheckpointIs, StandsBeside, IsFlushing}
use Rattle.rep_checkpoint.specs.Calls.{AreAt, AreBehind, Begins}
use Rattle.rep_checkpoint.proofs.Pages.{contains_in, in_contains, length_turned, turned_state, stays, first_row}

-- the next base can follow
pub follows : RowPlacesAreTold → (kept : Kept) (c : Standing) (position start : ℕ) (window : WindowOf) (left : List ℕ) → IsSuper c.base → CanBegin c position start window → ArePages kept c.base.params.rows c.base.position position left
    → IsNext c.base (next_of c.base position start window left)
follows told kept c position start window left super can pages = record {
  is_super = record {
    number = omega (arith, super.number, can.later);
    uuid = super.uuid;
    undefined = λ nil. absurd (can.defined nil);
    setting = super.setting;
    position = can.limit;
    start = can.started;
    pages = length_turned (length c.base.pages.items) c.base.pages.items left ∙ super.pages;
  };
  number = refl;
  uuid = refl;
  params = refl;
  later = can.later;
  is_window = can.is_window;
  pages = first;
  turned = λ page is.
      let lt : page < length c.base.pages.items = omega (arith, super.pages, within page is) in
      turned_state c.base position start left page lt ∙ ap (turn (state_of_page c.base page)) is;
}
  where
    changed : (page : ℕ) → is_in left page ≡ true → HasChange kept c.base.params.rows c.base.position position page
    changed page is = pages.only page (contains_in left page is)

    first : (page : ℕ) → is_in left page ≡ true → (first : Key) × IsFirstRow c.base.params.rows page first
    first page is = let change = changed page is in first_row c.base.params.rows change.version.key page change.within.row change.there

    within : (page : ℕ) → is_in left page ≡ true → page < pages_of c.base.params.rows
    within page is = let change = changed page is in subst (λ n. n < pages_of c.base.params.rows) change.there (told.within c.base.params.rows change.version.key change.within.row)

module _ (kept : Kept) (c : Standing) (position start : ℕ) (window : WindowOf) (left : List ℕ) (next : IsNext c.base (next_of c.base position start window left)) (pages : ArePages kept c.base.params.rows c.base.position position left)
    (x y : State) (behind : AreBehind c.base.position kept) (at : AreAt c.base.params.rows kept position x.content y.content) where
  abbrev rows : List ℕ
  rows = c.base.params.rows

  -- a row of a page that isn't left has no version
  unwritten : (key : Key) → IsRow rows key → is_in left (row_place rows key).page ≡ false → (m : ℕ) → m ≤ position → version_at kept key m ≡ None
  unwritten key row is m le = by (cases_lt c.base.position m) (version_at kept key m) refl
    where
      by : ((c.base.position < m) ⊎ (m ≤ c.base.position)) → (o : Option Version) → version_at kept key m ≡ o → version_at kept key m ≡ None
      by (inr before) o e = behind key m before
      by (inl above) None e = e
      by (inl above) (Some v) e =
          let change : HasChange kept rows c.base.position position (row_place rows key).page =
          record { version = record { key = key; seqno = m }; stands = subst IsSome (sym e) refl; within = record { above = above; up_to = le; row = row }; there = refl } in
          let yes = sym is ∙ in_contains left (row_place rows key).page (pages.all (row_place rows key).page change) in
          absurd cc

  -- so it is as it was
  unchanged : (key : Key) → IsRow rows key → is_in left (row_place rows key).page ≡ false → x.content key ≡ y.content key
  unchanged key row is = at.row key (x.content key) row (record {
    newest = λ m version newest. let no = sym newest.stands ∙ unwritten key row is m newest.within in absurd cc;
    none = λ none. refl;
  })

  -- a page that is left is in a slot of the next superblock
  not_in : (page : ℕ) → state_of_page (next_super c.base position start left) page ≡ Nowhere → is_in left page ≡ false
  not_in page nowhere = by (is_in left page) refl
    where
      by : (b : Bool) → is_in left page ≡ b → is_in left page ≡ false
      by true is = let no = sym nowhere ∙ next.turned page is in absurd cc
      by false is = is

  pub flushing : (s : States) → (size : ℕ) (z : State) → CheckpointIs size c x z s → IsFlushing (next_of c.base position start window left) y s
  flushing s size z is = record {
    pages = λ number slot out there.
        let page = is.base.content.pages number slot (sym (stays c.base position start left number out) ∙ there) in (
          page.0,
          inr page.1,
          record {
            page = page.2.page;
            is_page = page.2.is_page;
            is_it = page.2.is_it;
            earlier = omega (arith, page.2.earlier, next.later);
            rows = λ key row here. sym (unchanged key row (ap (is_in left) here ∙ out)) ∙ page.2.rows key row here;
          },
        );
    absent = λ key row nowhere.
        let out = not_in (row_place rows key).page nowhere in
        sym (unchanged key row out) ∙ is.base.content.absent key row (sym (stays c.base position start left (row_place rows key).page out) ∙ nowhere);
    outside = at.outside;
  }

-- what stands beside a base
pub beside_as : (size : ℕ) (base : SuperBody) (y : State) (s : States) (a b : Stage) → a ≡ b → StandsBeside size base a y s → StandsBeside size base b y s
beside_as size base y s a b e h = subst (λ (stage : Stage). StandsBeside size base stage y s) e h

pub begins : (kept : Kept) (c : Standing) (position start : ℕ) (window : WindowOf) (left : List ℕ) → c.stage ≡ Off → IsNext c.base (next_of c.base position start window left) → ArePages kept c.base.params.rows c.base.position position left
    → Begins kept c (begun c position start window left) (next_of c.base position start window left)
begins kept c position start window left off next pages size s x y z is behind position_is kept_is at = record {
  base = is.base;
  beside = record {
    follows = next;
    position = position_is;
    kept = kept_is;
    far = flushing kept c position start window left next pages x y behind at s size z is;
    cell = beside_as size c.base z s c.stage Off off is.beside;
  };
}

-- the checkpoint that a call made, as it saw the one before
pub record Began (kept : Kept) (c v : Standing) (position start : ℕ) (mine : WindowOf) (left : List ℕ) (super : SuperBody) : Type 0 where
  pub next : IsNext v.base (record { super = super; window = mine; left = left })
  pub pages : ArePages kept c.base.params.rows c.base.position position left
  pub is : record v { stage = Toward (record { super = super; window = mine; left = left }) Flushing } ≡ begun c position start mine left
  pub begins : Begins kept c (record v { stage = Toward (record { super = super; window = mine; left = left }) Flushing }) (next_of c.base position start mine left)

pub began :
    RowPlacesAreTold → (kept : Kept) (c v : Standing) (position start : ℕ) (mine window : WindowOf) (names left pages : List ℕ) (super : SuperBody) → v ≡ c → window ≡ mine → names ≡ v.base.params.rows → pages ≡ left
    → super ≡ next_super v.base position start pages → IsSuper v.base → CanBegin c position start window → ArePages kept names v.base.position position left → Began kept c v position start mine left super
began told kept c v position start mine window names left pages super same window_is rows_are pages_are super_is is can are =
    let can_v : CanBegin v position start mine = subst (λ (w : Standing). CanBegin w position start mine) (sym same) (subst (λ es. CanBegin c position start es) window_is can) in
    let are_v : ArePages kept v.base.params.rows v.base.position position left = subst (λ rs. ArePages kept rs v.base.position position left) rows_are are in
    let next : IsNext v.base (next_of v.base position start mine left) = follows told kept v position start mine left is can_v are_v in
    let same_super : super ≡ next_super v.base position start left = super_is ∙ ap (next_super v.base position start) pages_are in
    let same_next : ◌≡◌ {A = Next} (next_of v.base position start mine left) (record { super = super; window = mine; left = left }) = ap (λ (b : SuperBody). record { super = b; window = mine; left = left }) (sym same_super) in
    let is_begun : ◌≡◌ {A = Standing} (record v { stage = Toward (record { super = super; window = mine; left = left }) Flushing }) (begun c position start mine left) =
    ap (λ (n : Next). record v { stage = Toward n Flushing }) (sym same_next) ∙ ap (λ (w : Standing). begun w position start mine left) same in
    let are_c = subst (λ (w : Standing). ArePages kept w.base.params.rows w.base.position position left) same are_v in
    record {
      next = subst (IsNext v.base) same_next next;
      pages = are_c;
      is = is_begun;
      begins = subst (λ (w : Standing). Begins kept c w (next_of c.base position start mine left)) (sym is_begun)
          (begins kept c position start mine left (subst (λ es. CanBegin c position start es) window_is can).off (subst (λ (w : Standing). IsNext w.base (next_of w.base position start mine left)) same next) are_c);
    }
