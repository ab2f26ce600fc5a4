-- The pages of a base, as a donor writes them one after another.
use Rattle.std.proofs.Common.{◌≡◌, ℕ, zero, suc, ◌+◌, ◌-◌, ◌^◌, ◌<◌, ◌≤◌, Bool, true, false, List, [], ◌∷◌, ◌++◌, length, map, Option, None, Some, Result, Ok, Err, inl, inr, refl, sym, ap, subst, ◌∙◌, append-nil, append_assoc, add-one, arith, length-append}
use Rattle.std.specs.Prelude.{◌↔◌, ◌==◌, nat_lt, filter, slice_index, replicate, if◌then◌else◌, IfSome}
use Rattle.std.specs.List.{flat_map, range_with_len, AllByRecursion}
use Rattle.std.specs.Io.KnownBytes.{Appends}
use Rattle.std.proofs.KnownBytes.{Appends-nil, Appends-trans}
use Rattle.std.proofs.lemmas.Bool.{cases_lt, lt-ltb, le-ltb, eq-eqb, ne_eqb}
use Rattle.std.proofs.lemmas.List.Concat.{flat_map-append}
use Rattle.std.proofs.lemmas.List.{length-replicate}
use Rattle.std.proofs.lemmas.List.Elements.{filter-append}
use Rattle.rep_types.specs.declared.refusal.Refusal.{Refusal}
use Rattle.rep_types.specs.declared.key.Key.{Key}
use Rattle.rep_types.specs.declared.limits.TheConstants.{ROWS_PER_PAGE}
use Rattle.rep_types.specs.Settings.{IsRow}
use Rattle.rep_types.specs.Order.{State}
use Rattle.rep_types.proofs.Lists.{all_push}
use Rattle.rep_layout.specs.declared.page_state.PageState.{PageState}
use Rattle.rep_layout.specs.declared.page_state.PageState.TheVariants.{Nowhere, In}
use Rattle.rep_layout.specs.declared.place.Slot.{Slot}
use Rattle.rep_layout.specs.declared.super_body.SuperBody.{SuperBody}
use Rattle.rep_layout.specs.Rows.{row_place}
use Rattle.rep_pages.specs.declared.page.Page.{Page as PageBody}
use Rattle.rep_pages.specs.Pages.{IsFirstRow, EndWithTheTable}
use Rattle.rep_pages.specs.Images.{row_of}
use Rattle.rep_pages.specs.Slots.{state_of_page}
use Rattle.rep_cells.specs.Readings.{Reading}
use Rattle.rep_disk.specs.declared.disk.Disk.{Ghosts}
use Rattle.rep_forms.specs.Rows.{RowFits}
use Rattle.rep_replica.specs.BasePages.{HasPage, IsSpelledPage}
use Rattle.rep_replica.specs.EngineDonating.{IsBasePage, HasNoRow}
use Rattle.rep_steps.specs.Nodes.{Node}
use Rattle.rep_replica.specs.Replicas.{Replica}
use Rattle.rep_replica.specs.Holding.{Holds}
use Rattle.rep_replica.specs.Asking.{IsAsked}
use Rattle.rep_replica.specs.Coming.{blank, with_page, is_of_page}
use Rattle.rep_transfer.specs.declared.pieces.NumberedPage.{NumberedPage}
use Rattle.rep_transfer.specs.Pieces.{PageFits, page_bytes}
use Rattle.rep_transfer.specs.Writing.{Wrote}
use Rattle.rep_catchup.specs.Snapshots.{with_pages, number_of, IsPageOf}
use Rattle.rep_catchup.specs.Donating.{is_in_slot, held_below, rows_below, as_seen, ArePages, ArePagesBelow, IsHeldPage, IsPageFor, IsPageThere, IsPageOfNode, KnowsPage, KnowsPages, page_part, WroteFront, Writes}
use Rattle.rep_catchup.proofs.DonateReads.{same_of, seen_before}
use Rattle.rep_catchup.proofs.DonateWrites.{all_same, front_before, front_behind, front_none, front_of_wrote, writes_mapped}

-- ---- which pages the base has in a slot

range_more : (a n : ℕ) → range_with_len a (suc n) ≡ range_with_len a n ++ (a + n) ∷ []
range_more a zero = ap (λ (k : ℕ). k ∷ []) (omega arith)
range_more a (suc n) =
    let e : a + 1 + n ≡ a + suc n = omega arith in
    ap (λ (ks : List ℕ). a ∷ ks) (range_more (a + 1) n) ∙ ap (λ (k : ℕ). a ∷ (range_with_len (a + 1) n ++ k ∷ [])) e

range_next : (n : ℕ) → range_with_len 0 (n + 1) ≡ range_with_len 0 n ++ n ∷ []
range_next n = ap (range_with_len 0) (add-one n) ∙ range_more 0 n ∙ ap (λ (k : ℕ). range_with_len 0 n ++ k ∷ []) (omega arith)

filter_one : (test : ℕ → Bool) (n : ℕ) (b : Bool) → test n ≡ b → filter test (n ∷ []) ≡ (if b then n ∷ [] else [])
filter_one test n true is = rw is
filter_one test n false is = rw is

pub held_next : (b : SuperBody) (n : ℕ) (held : Bool) → is_in_slot (state_of_page b n) ≡ held → held_below b (n + 1) ≡ held_below b n ++ (if held then n ∷ [] else [])
held_next b n held is =
    let test : ℕ → Bool = λ page. is_in_slot (state_of_page b page) in
    ap (filter test) (range_next n) ∙ filter-append test (range_with_len 0 n) (n ∷ []) ∙ ap (λ (ks : List ℕ). held_below b n ++ ks) (filter_one test n held is)

slot_is : (state : PageState) (held : Bool) → (held ≡ false) ↔ (state ≡ Nowhere) → is_in_slot state ≡ held
slot_is Nowhere held h = sym (h.1 refl)
slot_is (In slot) true h = refl
slot_is (In slot) false h = let never : In slot ≡ Nowhere = h.0 refl in absurd cc

pub is_held : (b : SuperBody) (n page : ℕ) (held : Bool) → (held ≡ false) ↔ (state_of_page b page ≡ Nowhere) → page ≡ n → is_in_slot (state_of_page b n) ≡ held
is_held b n page held h same = ap (λ (k : ℕ). is_in_slot (state_of_page b k)) (sym same) ∙ slot_is (state_of_page b page) held h

-- ---- what pages bring

with_pages_push : (schema : List ℕ) (pages : List NumberedPage) (p : NumberedPage) (y : State) → with_pages schema (pages ++ p ∷ []) y ≡ with_page schema p.number p.rows (with_pages schema pages y)
with_pages_push schema [] p y = refl
with_pages_push schema (q ∷ pages) p y = with_pages_push schema pages p (with_page schema q.number q.rows y)

map_push : (pages : List NumberedPage) (p : NumberedPage) → map number_of (pages ++ p ∷ []) ≡ map number_of pages ++ p.number ∷ []
map_push [] p = refl
map_push (q ∷ pages) p = ap (λ (ks : List ℕ). q.number ∷ ks) (map_push pages p)

-- one page more, or none, where no row lies
module _ (schema : List ℕ) (content : Key → Option (List ℕ)) (n : ℕ) (key : Key) where
  abbrev page : ℕ
  page = (row_place schema key).page

  rows_more : (row : Option (List ℕ)) → (IsRow schema key → page ≡ n → content key ≡ row) → (if is_of_page schema n key then row else rows_below schema content n key) ≡ rows_below schema content (n + 1) key
  rows_more row here = elim (cases_lt key.row (slice_index schema key.table)) [
    | inr past ↦ let no : nat_lt key.row (slice_index schema key.table) ≡ false = le-ltb key.row (slice_index schema key.table) past in rw no
    | inl is ↦ let yes : nat_lt key.row (slice_index schema key.table) ≡ true = lt-ltb key.row (slice_index schema key.table) is in elim (cases_lt page n) [
      | inl below ↦
          let one : (page == n) ≡ false = ne_eqb page n (λ e. omega (arith, below, e)) in
          let two : nat_lt page n ≡ true = lt-ltb page n below in
          let three : nat_lt page (n + 1) ≡ true = lt-ltb page (n + 1) (omega (arith, below)) in
          rw (yes, one, two, three)
      | inr past ↦ elim (cases_lt n page) [
        | inl above ↦
            let one : (page == n) ≡ false = ne_eqb page n (λ e. omega (arith, above, e)) in
            let two : nat_lt page n ≡ false = le-ltb page n past in
            let three : nat_lt page (n + 1) ≡ false = le-ltb page (n + 1) (omega (arith, above)) in
            rw (yes, one, two, three)
        | inr within ↦
            let same : page ≡ n = omega (arith, past, within) in
            let one : (page == n) ≡ true = eq-eqb page n same in
            let three : nat_lt page (n + 1) ≡ true = lt-ltb page (n + 1) (omega (arith, within)) in
            rw (yes, one, three) (sym (here is same))
      ]
    ]
  ]

  rows_same : (IsRow schema key → page ≡ n → content key ≡ None) → rows_below schema content n key ≡ rows_below schema content (n + 1) key
  rows_same none = elim (cases_lt key.row (slice_index schema key.table)) [
    | inr past ↦ let no : nat_lt key.row (slice_index schema key.table) ≡ false = le-ltb key.row (slice_index schema key.table) past in rw no
    | inl is ↦ let yes : nat_lt key.row (slice_index schema key.table) ≡ true = lt-ltb key.row (slice_index schema key.table) is in elim (cases_lt page n) [
      | inl below ↦
          let two : nat_lt page n ≡ true = lt-ltb page n below in
          let three : nat_lt page (n + 1) ≡ true = lt-ltb page (n + 1) (omega (arith, below)) in
          rw (yes, two, three)
      | inr past ↦ elim (cases_lt n page) [
        | inl above ↦
            let two : nat_lt page n ≡ false = le-ltb page n past in
            let three : nat_lt page (n + 1) ≡ false = le-ltb page (n + 1) (omega (arith, above)) in
            rw (yes, two, three)
        | inr within ↦
            let same : page ≡ n = omega (arith, past, within) in
            let two : nat_lt page n ≡ false = le-ltb page n past in
            let three : nat_lt page (n + 1) ≡ true = lt-ltb page (n + 1) (omega (arith, within)) in
            rw (yes, two, three) (sym (none is same))
      ]
    ]
  ]

module _ (b : SuperBody) (content : Key → Option (List ℕ)) (n : ℕ) (pages : List NumberedPage) (are : ArePages b content n pages) where
  -- a page more
  pub pages_more : (p : NumberedPage) → IsHeldPage b content n p → ArePages b content (n + 1) (pages ++ p ∷ [])
  pages_more p held = record {
    numbers = map_push pages p ∙ ap (λ (k : ℕ). map number_of pages ++ k ∷ []) held.is_it ∙ ap (λ (ks : List ℕ). ks ++ n ∷ []) are.numbers ∙ sym (held_next b n true held.held);
    are_pages = all_push (IsPageOf b.params.rows) pages p are.are_pages held.is_page;
    fit = all_push PageFits pages p are.fit held.fits;
    rows = λ position v key.
        ap (λ (y : State). y.content key) (with_pages_push b.params.rows pages p (blank position v))
        ∙ ap (λ (k : ℕ). if is_of_page b.params.rows k key then row_of b.params.rows p.rows key else (with_pages b.params.rows pages (blank position v)).content key) held.is_it
        ∙ ap (λ (row : Option (List ℕ)). if is_of_page b.params.rows n key then row_of b.params.rows p.rows key else row) (are.rows position v key)
        ∙ rows_more b.params.rows content n key (row_of b.params.rows p.rows key) (held.rows key);
  }

  -- none
  pub pages_stay : is_in_slot (state_of_page b n) ≡ false → HasNoRow b content n → ArePages b content (n + 1) pages
  pages_stay free none = record {
    numbers = are.numbers ∙ sym (append-nil (held_below b n)) ∙ sym (held_next b n false free);
    are_pages = are.are_pages;
    fit = are.fit;
    rows = λ position v key. are.rows position v key ∙ rows_same b.params.rows content n key (none key);
  }

-- ---- what is written of them

no_rows : (schema : List ℕ) (content : Key → Option (List ℕ)) (key : Key) → rows_below schema content 0 key ≡ None
no_rows schema content key = elim (cases_lt key.row (slice_index schema key.table)) [
  | inl is ↦ let yes : nat_lt key.row (slice_index schema key.table) ≡ true = lt-ltb key.row (slice_index schema key.table) is in let none : nat_lt (row_place schema key).page 0 ≡ false = le-ltb (row_place schema key).page 0 (omega arith) in rw (yes, none)
  | inr past ↦ let no : nat_lt key.row (slice_index schema key.table) ≡ false = le-ltb key.row (slice_index schema key.table) past in rw no
]

-- ---- on any device

-- a page as a list
abbrev pub listed : Option NumberedPage → List NumberedPage
listed None = []
listed (Some p) = p ∷ []

listed_bytes : (o : Option NumberedPage) → flat_map page_bytes (listed o) ≡ page_part o
listed_bytes None = refl
listed_bytes (Some p) = append-nil (page_bytes p)

below_more : (b : SuperBody) (n : ℕ) (pages : List NumberedPage) (o : Option NumberedPage) → ArePagesBelow b n pages → IsPageFor b n o → ArePagesBelow b (n + 1) (pages ++ listed o)
below_more b n pages None are free = subst (ArePagesBelow b (n + 1)) (sym (append-nil pages)) (record { numbers = are.numbers ∙ sym (append-nil (held_below b n)) ∙ sym (held_next b n false free); fit = are.fit })
below_more b n pages (Some p) are (is_it, held, fits) = record {
  numbers = map_push pages p ∙ ap (λ (k : ℕ). map number_of pages ++ k ∷ []) is_it ∙ ap (λ (ks : List ℕ). ks ++ n ∷ []) are.numbers ∙ sym (held_next b n true held);
  fit = all_push PageFits pages p are.fit fits;
}

-- a page without rows
blank_page : ℕ → NumberedPage
blank_page n = record { number = n; rows = replicate ROWS_PER_PAGE None }

row_none : RowFits None
row_none = record { short = tt; bytes = tt }

blank_fits : (n : ℕ) → n < 2 ^ 16 → PageFits (blank_page n)
unfolding blank_page
blank_fits n small = record { number = small; rows = record { size = length-replicate {A = Option (List ℕ)} ROWS_PER_PAGE None; few = omega arith; each = all_same RowFits None ROWS_PER_PAGE row_none } }

some_page_at : (b : SuperBody) (n : ℕ) (held : Bool) → is_in_slot (state_of_page b n) ≡ held → n < 2 ^ 16 → (o : Option NumberedPage) × IsPageFor b n o
unfolding blank_page
some_page_at b n true is small = (Some (blank_page n), (refl, is, blank_fits n small))
some_page_at b n false is small = (None, is)

pub some_page : (b : SuperBody) (n : ℕ) → n < 2 ^ 16 → (o : Option NumberedPage) × IsPageFor b n o
some_page b n small = some_page_at b n (is_in_slot (state_of_page b n)) refl small

-- the device did not show it
pub page_none : (b : SuperBody) (n : ℕ) (Known : Option NumberedPage → Type 0) (a : Option (List ℕ)) (e : Refusal) → n < 2 ^ 16 → Writes {T = Unit {0}} page_part (IsPageFor b n) (λ done. Known) a a (Err e)
page_none b n Known a e small = let o = some_page b n small in record { done = tt; cut = (o.0, o.1, front_none a (page_part o.0)) }

-- the writer took it, or failed
pub page_writes : (b : SuperBody) (n : ℕ) (p : NumberedPage) (Known : Option NumberedPage → Type 0) (a c : Option (List ℕ)) → is_in_slot (state_of_page b n) ≡ true → PageFits p → Known (Some p) → (result : Result (Unit {0}) Refusal) → Wrote a c (page_bytes p) result
    → p.number ≡ n → Writes page_part (IsPageFor b n) (λ done. Known) a c result
page_writes b n p Known a c held fits known (Ok done) wrote same = record { done = (Some p, (same, held, fits), known, wrote.done); cut = tt }
page_writes b n p Known a c held fits known (Err e) wrote same = record { done = tt; cut = (Some p, (same, held, fits), front_of_wrote a c (page_bytes p) e wrote) }

-- pages that go on from these
go_on : (b : SuperBody) (k n m : ℕ) (pages : List NumberedPage) → n + k ≡ m → m ≤ 2 ^ 16 → ArePagesBelow b n pages → (more : List NumberedPage) × ArePagesBelow b m (pages ++ more)
go_on b zero n m pages all few are = let same : n ≡ m = omega (arith, all) in ([], subst (λ (x : ℕ). ArePagesBelow b x (pages ++ [])) same (subst (ArePagesBelow b n) (sym (append-nil pages)) are))
go_on b (suc k) n m pages all few are =
    let next = some_page b n (omega (arith, all, few)) in
    let rest = go_on b k (n + 1) m (pages ++ listed next.0) (omega (arith, all)) few (below_more b n pages next.0 are next.1) in
    (listed next.0 ++ rest.0, subst (ArePagesBelow b m) (append_assoc pages (listed next.0) rest.0) rest.1)

pub no_pages_below : (b : SuperBody) → ArePagesBelow b 0 []
no_pages_below b = record { numbers = refl; fit = tt }

-- some of them, and a front of those that follow
pub pages_cut : (b : SuperBody) (n m : ℕ) (pages : List NumberedPage) (o : Option NumberedPage) (a c d : Option (List ℕ)) → n < m → m ≤ 2 ^ 16 → ArePagesBelow b n pages → IsPageFor b n o → Appends a c (flat_map page_bytes pages) → WroteFront c d (page_part o)
    → (all : List NumberedPage) × ArePagesBelow b m all × WroteFront a d (flat_map page_bytes all)
pages_cut b n m pages o a c d lt few are is written cut =
    let rest = go_on b (m - (n + 1)) (n + 1) m (pages ++ listed o) (omega (arith, lt)) few (below_more b n pages o are is) in
    let here : WroteFront c d (flat_map page_bytes (listed o)) = subst (WroteFront c d) (sym (listed_bytes o)) cut in
    let both : WroteFront a d (flat_map page_bytes (pages ++ listed o)) = subst (WroteFront a d) (sym (flat_map-append page_bytes pages (listed o))) (front_behind a c d (flat_map page_bytes pages) (flat_map page_bytes (listed o)) written here) in
    ((pages ++ listed o) ++ rest.0, rest.1, subst (WroteFront a d) (sym (flat_map-append page_bytes (pages ++ listed o) rest.0)) (front_before a d (flat_map page_bytes (pages ++ listed o)) (flat_map page_bytes rest.0) both))

-- none of them
pub pages_none : (b : SuperBody) (m : ℕ) (a : Option (List ℕ)) → m ≤ 2 ^ 16 → (all : List NumberedPage) × ArePagesBelow b m all
pages_none b m a few = let rest = go_on b m 0 m [] (omega arith) few (no_pages_below b) in (rest.0, rest.1)

-- ---- what is written of them

pub record WrotePages {D : Type 0} (g : Ghosts D) (r : Replica D) (number : ℕ) (old new : Option (List ℕ)) : Type 0 where
  pub pages : List NumberedPage
  pub are_pages : ArePagesBelow r.engine.checkpoint.base number pages
  pub known : KnowsPages g r number pages
  pub written : Appends old new (flat_map page_bytes pages)

module _ {D : Type 0} (g : Ghosts D) (r : Replica D) where
  pub wrote_no_pages : (old : Option (List ℕ)) → WrotePages g r 0 old old
  wrote_no_pages old = record {
    pages = [];
    are_pages = no_pages_below r.engine.checkpoint.base;
    known = record { there = λ h. tt; of_node = λ n h. record { numbers = refl; are_pages = tt; fit = tt; rows = λ position v key. sym (no_rows r.engine.checkpoint.base.params.rows n.base.content key) } };
    written = Appends-nil old;
  }

  there_more : (reading : Reading) (pages : List NumberedPage) (o : Option NumberedPage) → AllByRecursion (IsPageThere reading r.engine.checkpoint.base) pages → IfSome o (IsPageThere reading r.engine.checkpoint.base) → AllByRecursion (IsPageThere reading r.engine.checkpoint.base) (pages ++ listed o)
  there_more reading pages None all here = subst (AllByRecursion (IsPageThere reading r.engine.checkpoint.base)) (sym (append-nil pages)) all
  there_more reading pages (Some p) all here = all_push (IsPageThere reading r.engine.checkpoint.base) pages p all here

  node_more : (content : Key → Option (List ℕ)) (n : ℕ) (pages : List NumberedPage) (o : Option NumberedPage) → ArePages r.engine.checkpoint.base content n pages → IsPageFor r.engine.checkpoint.base n o → IsPageOfNode r.engine.checkpoint.base content n o → ArePages r.engine.checkpoint.base content (n + 1) (pages ++ listed o)
  node_more content n pages None are free none = subst (ArePages r.engine.checkpoint.base content (n + 1)) (sym (append-nil pages)) (pages_stay r.engine.checkpoint.base content n pages are free none)
  node_more content n pages (Some p) are is held = pages_more r.engine.checkpoint.base content n pages are p held

  pub wrote_more_pages : (n : ℕ) (old mid new : Option (List ℕ)) (o : Option NumberedPage) → WrotePages g r n old mid → IsPageFor r.engine.checkpoint.base n o → KnowsPage g r n o → Appends mid new (page_part o) → WrotePages g r (n + 1) old new
  wrote_more_pages n old mid new o w is known written = record {
    pages = w.pages ++ listed o;
    are_pages = below_more r.engine.checkpoint.base n w.pages o w.are_pages is;
    known = record {
      there = λ h. there_more (as_seen g r.engine) w.pages o (w.known.there h) (known.there h);
      of_node = λ node h. node_more node.base.content n w.pages o (w.known.of_node node h) is (known.of_node node h);
    };
    written = subst (Appends old new) (sym (flat_map-append page_bytes w.pages (listed o)))
        (Appends-trans old mid new (flat_map page_bytes w.pages) (flat_map page_bytes (listed o)) w.written (subst (Appends mid new) (sym (listed_bytes o)) written));
  }

module _ {D : Type 0} (g : Ghosts D) where
  -- what was known of the replica before
  pub page_before : (a b : Replica D) (number : ℕ) (old new : Option (List ℕ)) (result : Result (Unit {0}) Refusal) → IsAsked g a b → ((n : Node) → Holds g n a → Holds g n b)
      → Writes page_part (IsPageFor b.engine.checkpoint.base number) (λ done. KnowsPage g b number) old new result → Writes page_part (IsPageFor a.engine.checkpoint.base number) (λ done. KnowsPage g a number) old new result
  page_before a b number old new result reads still w =
      let same : b.engine.checkpoint.base ≡ a.engine.checkpoint.base = same_of g (λ (r : Replica D). r.engine.checkpoint.base) a b reads refl in
      writes_mapped page_part _ _ _ _ old new result
      (λ o is. subst (λ (s : SuperBody). IsPageFor s number o) same is)
      (λ done o is known. record {
        there = λ h. seen_before g a b (λ r l s log. IfSome o (IsPageThere r s)) reads h (known.there (reads.stays_honest h));
        of_node = λ n h. subst (λ (s : SuperBody). IsPageOfNode s n.base.content number o) same (known.of_node n (still n h));
      }) w

pub count_next : (b : SuperBody) (n : ℕ) (held : Bool) → is_in_slot (state_of_page b n) ≡ held → length (held_below b (n + 1)) ≡ length (held_below b n) + (if held then 1 else 0)
count_next b n true is = omega (arith, ap length (held_next b n true is), length-append (held_below b n) (n ∷ []))
count_next b n false is = omega (arith, ap length (held_next b n false is), length-append (held_below b n) [])

-- ---- what is read of them

in_a_slot : (state : PageState) → (state ≡ Nowhere → ⊥) → (slot : Slot) × (state ≡ In slot)
in_a_slot Nowhere not = absurd (not refl)
in_a_slot (In slot) not = (slot, refl)

-- the page stands in a slot
pub slot_held : (b : SuperBody) (number at : ℕ) (o : Option PageBody) (page : PageBody) → o ≡ Some page → at ≡ number → (o ≡ None → state_of_page b at ≡ Nowhere) × (state_of_page b at ≡ Nowhere → o ≡ None) → is_in_slot (state_of_page b number) ≡ true
slot_held b number at o page is same none =
    let here = in_a_slot (state_of_page b at) (λ nowhere. let never : None ≡ Some page = sym (none.1 nowhere) ∙ is in absurd cc) in
    ap (λ (k : ℕ). is_in_slot (state_of_page b k)) (sym same) ∙ ap is_in_slot here.1

pub slot_free : (b : SuperBody) (number at : ℕ) (o : Option PageBody) → o ≡ None → at ≡ number → (o ≡ None → state_of_page b at ≡ Nowhere) × (state_of_page b at ≡ Nowhere → o ≡ None) → is_in_slot (state_of_page b number) ≡ false
slot_free b number at o is same none = ap (λ (k : ℕ). is_in_slot (state_of_page b k)) (sym same) ∙ ap is_in_slot (none.0 is)

-- on an honest device it is as its bytes spell it
pub page_there : (r : Reading) (b : SuperBody) (number at : ℕ) (o : Option PageBody) (page : PageBody) → o ≡ Some page → at ≡ number → (o ≡ None → state_of_page b at ≡ Nowhere) × (state_of_page b at ≡ Nowhere → o ≡ None) → IfSome o (HasPage r b at)
    → IsPageThere r b (record { number = number; rows = page.rows })
page_there r b number at o page is same none has =
    let found : HasPage r b at page = subst (λ (x : Option PageBody). IfSome x (HasPage r b at)) is has in
    elim found [
      | inl spelled ↦ (page, subst (λ (k : ℕ). IsSpelledPage r b k page) same spelled, refl)
      | inr absent ↦ absurd (let never : None ≡ Some page = sym (none.1 absent.nowhere) ∙ is in cc)
    ]

pub page_held : (b : SuperBody) (content : Key → Option (List ℕ)) (number at : ℕ) (page : PageBody) (o : Option PageBody) → o ≡ Some page → at ≡ number → (o ≡ None → state_of_page b at ≡ Nowhere) × (state_of_page b at ≡ Nowhere → o ≡ None)
    → IfSome o (IsBasePage b content at) → PageFits (record { number = number; rows = page.rows }) → IsHeldPage b content number (record { number = number; rows = page.rows })
page_held b content number at page o is same none base fits =
    let found : IsBasePage b content at page = subst (λ (x : Option PageBody). IfSome x (IsBasePage b content at)) is base in
    let here = in_a_slot (state_of_page b at) (λ nowhere. let never : None ≡ Some page = sym (none.1 nowhere) ∙ is in absurd cc) in
    let form = found.form here.0 here.1 in
    let number_is : page.number ≡ number = found.is_it ∙ same in
    record {
      is_it = refl;
      held = ap (λ (k : ℕ). is_in_slot (state_of_page b k)) (sym same) ∙ ap is_in_slot here.1;
      is_page = record {
        first = form.0;
        begins = subst (λ (k : ℕ). IsFirstRow b.params.rows k form.0) number_is form.1.begins;
        size = form.1.size;
        past = subst (λ (k : ℕ). EndWithTheTable b.params.rows k page.rows) number_is form.1.past;
      };
      fits = fits;
      rows = λ key row there. found.rows key row (there ∙ sym same);
    }

pub no_page : (b : SuperBody) (content : Key → Option (List ℕ)) (number at : ℕ) (o : Option PageBody) → o ≡ None → at ≡ number → (o ≡ None → state_of_page b at ≡ Nowhere) × (state_of_page b at ≡ Nowhere → o ≡ None)
    → (state_of_page b at ≡ Nowhere → HasNoRow b content at) → HasNoRow b content number
no_page b content number at o is same none absent = λ key row there. absent (none.0 is) key row (there ∙ sym same)
