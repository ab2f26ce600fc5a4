-- The rows that pages make, and what their base makes of items.
use Rattle.std.proofs.Common.{◌≡◌, ℕ, suc, ◌+◌, ◌-◌, ◌<◌, ◌≤◌, ◌⊎◌, inl, inr, Bool, true, false, not, if◌then◌else◌, nat_lt, nat_le, List, [], ◌∷◌, length, map, get_or, Option, Some, None, refl, sym, ap, subst, ◌∙◌, arith}
use Rattle.std.specs.Prelude.{slice_index}
use Rattle.std.specs.List.{AllByRecursion}
use Rattle.std.proofs.lemmas.Bool.{cases_lt}
use Rattle.std.proofs.lemmas.Bool.Decides.{nat_tests}
use Rattle.std.proofs.lemmas.List.{get_or_past}
use Rattle.std.proofs.lemmas.Option.{same_Some}
use Rattle.rep_types.specs.declared.key.Key.{Key}
use Rattle.rep_types.specs.declared.value.Write.{Write}
use Rattle.rep_types.specs.declared.judged.Judged.{Judged}
use Rattle.rep_types.specs.declared.verdict.Verdict.{Verdict}
use Rattle.rep_types.specs.declared.verdict.Verdict.TheVariants.{Stale, Future, BadKey}
use Rattle.rep_types.specs.Windows.{Window as WindowOf}
use Rattle.rep_types.specs.declared.item.Item.{Item}
use Rattle.rep_types.specs.declared.item.Item.TheVariants.{WriteSet, SetWindow}
use Rattle.rep_types.specs.Items.{writes_of}
use Rattle.rep_types.specs.Settings.{Setting, IsRow, has_row}
use Rattle.rep_types.specs.Order.{State, counts, in_schema, is_commit, content_after, extended, judge, conflict_with, greatest, seqnos_against}
use Rattle.rep_record.specs.Blocks.{SeqnosFrom}
use Rattle.rep_layout.specs.declared.super_body.SuperBody.{SuperBody}
use Rattle.rep_layout.specs.declared.page_state.PageState.{PageState}
use Rattle.rep_layout.specs.declared.page_state.PageState.TheVariants.{Nowhere, In}
use Rattle.rep_layout.specs.declared.place.Slot.{Slot}
use Rattle.rep_layout.specs.declared.place.Place.TheVariants.{Page}
use Rattle.rep_layout.specs.Rows.{row_place}
use Rattle.rep_cells.specs.Readings.{Reading}
use Rattle.rep_versions.specs.Versions.{Kept, Version, version_at}
use Rattle.rep_versions.specs.Following.{AreVersionsOf, Changes, made_by, written_at, effect_of}
use Rattle.rep_pages.specs.declared.page.Page.{Page as PageBody}
use Rattle.rep_pages.specs.Slots.{state_of_page}
use Rattle.rep_pages.specs.Pages.{IsPageBody, PagesAreTold}
use Rattle.rep_pages.specs.Images.{row_of}
use Rattle.rep_steps.specs.Nodes.{reached, advanced}
use Rattle.rep_steps.specs.Images.{AreJudgedFrom}
use Rattle.rep_engine.specs.Bases.{HasContent}
use Rattle.rep_recover.specs.Judging.{base_with}
use Rattle.rep_recover.specs.Looking.{HasPage, HasPages}
use Rattle.rep_recover.specs.Opening.{names_rows}

-- ---- the rows of the pages

module _ (told : PagesAreTold) (r : Reading) (b : SuperBody) (pages : HasPages r b) where
  -- the page of a row
  abbrev page_of : Key → ℕ
  page_of key = (row_place b.params.rows key).page

  -- what a row's page says of it, if the page stands in a slot
  abbrev said : (key : Key) (state : PageState) → state_of_page b (page_of key) ≡ state → Option (List ℕ)
  said key Nowhere there = None
  said key (In slot) there = row_of b.params.rows (pages (page_of key) slot there).page.rows key

  -- the rows
  abbrev pub content : Key → Option (List ℕ)
  content key = if has_row b.params.rows key then said key (state_of_page b (page_of key)) refl else None

  of_row : (key : Key) → IsRow b.params.rows key → content key ≡ said key (state_of_page b (page_of key)) refl
  of_row key row =
      let is : has_row b.params.rows key ≡ true = grind (arith, nat_tests) in
      ap (λ (t : Bool). if t then said key (state_of_page b (page_of key)) refl else None) is

  said_none : (key : Key) (state : PageState) (there : state_of_page b (page_of key) ≡ state) → state ≡ Nowhere → said key state there ≡ None
  said_none key Nowhere there is = refl
  said_none key (In slot) there is = absurd cc

  said_by : (key : Key) (state : PageState) (there : state_of_page b (page_of key) ≡ state) (number : ℕ) (slot : Slot) → state ≡ In slot → page_of key ≡ number → (p : HasPage r b number slot)
      → said key state there ≡ row_of b.params.rows p.page.rows key
  said_by key Nowhere there number slot is here p = absurd cc
  said_by key (In own) there number slot is here p =
      let q = pages (page_of key) own there in
      let slots : own ≡ slot = cc in
      let places = ap (λ (n : ℕ). r (Page n own)) here ∙ ap (λ (s : Slot). r (Page number s)) slots in
      let bodies : q.body ≡ p.body = same_Some q.body p.body (sym q.shown ∙ places ∙ p.shown) in
      let one : q.page ≡ p.page = told b.params.rows q.page p.page p.body (subst (IsPageBody b.params.rows q.page) bodies q.is_page.is_page) p.is_page.is_page in
      ap (λ (x : PageBody). row_of b.params.rows x.rows key) one

  pub has_content : HasContent r b content
  has_content = record {
    pages = λ number slot there.
        let p = pages number slot there in (
          p.body,
          p.shown,
          record {
            page = p.page;
            is_page = p.is_page.is_page;
            is_it = p.is_page.is_it;
            earlier = p.is_page.earlier;
            rows = λ key row here. of_row key row ∙ said_by key (state_of_page b (page_of key)) refl number slot (ap (state_of_page b) here ∙ there) here p;
          },
        );
    absent = λ key row there. of_row key row ∙ said_none key (state_of_page b (page_of key)) refl there;
    outside = λ key none. elim (cases_lt key.row (slice_index b.params.rows key.table)) [
      | inl row ↦ absurd (none row)
      | inr past ↦ (
          let is : has_row b.params.rows key ≡ false = grind (arith, nat_tests) in
          ap (λ (t : Bool). if t then said key (state_of_page b (page_of key)) refl else None) is)
    ];
  }

-- ---- the rows of a base change no verdict and no window

pub same_windows : (p : Setting) (n : ℕ) (v : WindowOf) (f g : Key → Option (List ℕ)) (js : List Judged) → (reached p (base_with n v f) js).kept ≡ (reached p (base_with n v g) js).kept
same_windows p n v f g [] = refl
same_windows p n v f g (j ∷ js) =
    same_windows p (n + 1) (extended v j) (if counts j then content_after f (writes_of j.item) else f) (if counts j then content_after g (writes_of j.item) else g) js

pub judged_alike : (p : Setting) (n : ℕ) (v : WindowOf) (f g : Key → Option (List ℕ)) (js : List Judged) → AreJudgedFrom p (base_with n v f) js → AreJudgedFrom p (base_with n v g) js
judged_alike p n v f g [] h = tt
judged_alike p n v f g (j ∷ js) h = (
  h.0,
  h.1,
  judged_alike p (n + 1) (extended v j) (if counts j then content_after f (writes_of j.item) else f) (if counts j then content_after g (writes_of j.item) else g) js h.2,
)

-- ---- items that are judged so

pub seqnos_follow : (p : Setting) (S : State) (js : List Judged) → AreJudgedFrom p S js → SeqnosFrom (S.position + 1) js
seqnos_follow p S [] h = tt
seqnos_follow p S (j ∷ js) h = (h.0, seqnos_follow p (advanced p S j) js h.2)

-- an item commits only where its keys are rows
commits : (future rows stale : Bool) (v : Verdict) → is_commit (if future then Future else if not rows then BadKey else if stale then Stale else v) ≡ true → rows ≡ true
commits true rows stale v h = absurd cc
commits false true stale v h = refl
commits false false stale v h = absurd cc

commits_rows : (p : Setting) (position : ℕ) (v : WindowOf) (i : Item) → is_commit (judge p position v i) ≡ true → names_rows p i ≡ true
commits_rows p position v (WriteSet w) is =
    commits (nat_le (position + 1) w.last_seen) (in_schema p w) (nat_lt (w.last_seen + 1) v.floor) (conflict_with (greatest (seqnos_against w v.entries))) is
commits_rows p position v (SetWindow c) is = refl

pub rows_there : (p : Setting) (S : State) (js : List Judged) → AreJudgedFrom p S js → AllByRecursion (λ (j : Judged). counts j ≡ true → names_rows p j.item ≡ true) js
rows_there p S [] h = tt
rows_there p S (j ∷ js) h = (
  λ counted. commits_rows p S.position S.kept j.item (ap is_commit (sym h.1) ∙ counted),
  rows_there p (advanced p S j) js h.2,
)

-- ---- versions

counted : (js : List Judged) → length (map effect_of js) ≡ length js
counted [] = refl
counted (j ∷ js) = ap suc (counted js)

pub versions_within : (base : ℕ) (items : List Judged) (kept : Kept) → AreVersionsOf base (map effect_of items) kept → (key : Key) (s : ℕ) (version : Version) → version_at kept key s ≡ Some version
    → (base < s) × (s ≤ base + length items)
versions_within base items kept are key s version stands = by (cases_lt base s)
  where
    changes : Changes
    changes = map effect_of items

    made : made_by (written_at base changes s) key ≡ Some version
    made = sym (are key s) ∙ stands

    none : written_at base changes s ≡ [] → ⊥
    none e = let never : made_by [] key ≡ Some version = sym (ap (λ (ws : List Write). made_by ws key) e) ∙ made in absurd cc

    later : base < s → s ≤ base + length items
    later lt = elim (cases_lt (s - (base + 1)) (length changes)) [
      | inl inside ↦ omega (arith, inside, lt, counted items)
      | inr past ↦ (
          let is : nat_lt base s ≡ true = grind (arith, nat_tests) in
          absurd (none (ap (λ (t : Bool). if t then get_or changes (s - (base + 1)) [] else []) is ∙ get_or_past changes (s - (base + 1)) [] past)))
    ]

    by : ((base < s) ⊎ (s ≤ base)) → (base < s) × (s ≤ base + length items)
    by (inl lt) = (lt, later lt)
    by (inr le) =
        let is : nat_lt base s ≡ false = grind (arith, nat_tests) in
        absurd (none (ap (λ (t : Bool). if t then get_or changes (s - (base + 1)) [] else []) is))
