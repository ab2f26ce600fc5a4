-- The pages with a change are those that the items touched.
use Rattle.std.proofs.Common.{◌≡◌, inl, inr, ℕ, zero, suc, ◌+◌, ◌-◌, ◌<◌, ◌≤◌, ◌==◌, Bool, true, false, List, [], ◌∷◌, ◌++◌, take, map, filter, Option, None, Some, IsSome, refl, sym, ap, subst, ◌∙◌, arith}
use Rattle.std.specs.Prelude.{if◌then◌else◌, ◌&&◌, ◌||◌, slice_index_or, Contains}
use Rattle.std.specs.Option.{option_or}
use Rattle.std.specs.List.{list_any, list_all, AllByRecursion}
use Rattle.std.specs.List.Sorted.{IsStrictlyIncreasing, IsStrictlySortedBy}
use Rattle.std.specs.Ordering.{nat_cmp}
use Rattle.std.specs.declared.cmp.Ordering.TheVariants.{Less}
use Rattle.std.proofs.lemmas.Bool.{cases_lt}
use Rattle.std.proofs.lemmas.Bool.Decides.{nat_tests}
use Rattle.std.proofs.lemmas.Map.Keys.{sorted_from_strictly_increasing}
use Rattle.rep_types.specs.declared.key.Key.{Key}
use Rattle.rep_types.specs.declared.judged.Judged.{Judged}
use Rattle.rep_types.specs.declared.value.Write.{Write}
use Rattle.rep_types.specs.Keys.{key_eq}
use Rattle.rep_types.specs.Settings.{Setting, has_row, IsRow, pages_of}
use Rattle.rep_types.specs.Items.{writes_of}
use Rattle.rep_types.specs.Order.{State, latest, counts, is_commit, judge}
use Rattle.rep_types.proofs.Choices.{and_left, and_right}
use Rattle.rep_types.proofs.Touches.{key_eq-true, key_eq_refl}
use Rattle.rep_types.proofs.Members.{Contains-nothing, Contains-first, Contains-behind, Contains-cons_cases, Contains-filter, Contains-from_filter}
use Rattle.rep_layout.specs.Rows.{row_place, RowPlacesAreTold}
use Rattle.rep_versions.specs.Versions.{Kept, version_at, overlaid, HasChange, ArePages}
use Rattle.rep_versions.specs.Following.{AreVersionsOf, made_by, written_at, effect_of}
use Rattle.rep_steps.specs.Moves.{below, is_touched, touched}
use Rattle.rep_steps.specs.Nodes.{advanced}
use Rattle.rep_steps.specs.Images.{AreJudgedFrom}
use Rattle.rep_checkpoint.proofs.Rows.{commits_writes_inside}

-- ---- lists of the same numbers that rise

Rises : ℕ → List ℕ → Type 0
Rises low [] = Unit {0}
Rises low (x ∷ xs) = (low ≤ x) × Rises (x + 1) xs

least : (low : ℕ) (xs : List ℕ) (k : ℕ) → Rises low xs → Contains xs k → low ≤ k
unfolding Rises
least low [] k h there = absurd (Contains-nothing k there)
least low (x ∷ xs) k h there = elim (Contains-cons_cases x k xs there) [
  | inl same ↦ omega (arith, h.0, same)
  | inr rest ↦ let more = least (x + 1) xs k h.1 rest in omega (arith, h.0, more)
]

-- an element of the longer list that isn't its first
rest_of : (x : ℕ) (xs : List ℕ) (k : ℕ) → x < k → Contains (x ∷ xs) k → Contains xs k
rest_of x xs k lt there = elim (Contains-cons_cases x k xs there) [
  | inl same ↦ absurd (omega (arith, lt, same))
  | inr rest ↦ rest
]

same_first : (low x y : ℕ) (xs ys : List ℕ) → Rises low (x ∷ xs) → Rises low (y ∷ ys) → Contains (y ∷ ys) x → Contains (x ∷ xs) y → x ≡ y
unfolding Rises
same_first low x y xs ys h k there here = elim (Contains-cons_cases y x ys there) [
  | inl same ↦ sym same
  | inr rest ↦ elim (Contains-cons_cases x y xs here) [
    | inl same ↦ same
    | inr other ↦ let up = least (y + 1) ys x k.1 rest in let down = least (x + 1) xs y h.1 other in absurd (omega (arith, up, down))
  ]
]

same_list : (low : ℕ) (xs ys : List ℕ) → Rises low xs → Rises low ys → ((k : ℕ) → Contains xs k → Contains ys k) → ((k : ℕ) → Contains ys k → Contains xs k) → xs ≡ ys
unfolding Rises
same_list low [] [] h k to from = refl
same_list low [] (y ∷ ys) h k to from = absurd (Contains-nothing y (from y (Contains-first y y ys refl)))
same_list low (x ∷ xs) [] h k to from = absurd (Contains-nothing x (to x (Contains-first x x xs refl)))
same_list low (x ∷ xs) (y ∷ ys) h k to from =
    let first : x ≡ y = same_first low x y xs ys h k (to x (Contains-first x x xs refl)) (from y (Contains-first y y ys refl)) in
    let rises : Rises (x + 1) ys = subst (λ i. Rises (i + 1) ys) (sym first) k.1 in
    let rest : xs ≡ ys = same_list (x + 1) xs ys h.1 rises
    (λ i there. let lt = least (x + 1) xs i h.1 there in rest_of y ys i (omega (arith, lt, first)) (to i (Contains-behind x i xs there)))
    (λ i there. let lt = least (x + 1) ys i rises there in rest_of x xs i (omega (arith, lt)) (from i (Contains-behind y i ys there))) in
    ap (λ i. i ∷ xs) first ∙ ap (λ (is : List ℕ). y ∷ is) rest

above : (x : ℕ) (xs : List ℕ) → AllByRecursion (λ (y : ℕ). nat_cmp x y ≡ Less) xs → AllByRecursion (λ (y : ℕ). x + 1 ≤ y) xs
above x [] h = tt
above x (y ∷ ys) h = (grind (arith, nat_tests, h.0), above x ys h.1)

rises_sorted : (low : ℕ) (xs : List ℕ) → AllByRecursion (λ (y : ℕ). low ≤ y) xs → IsStrictlySortedBy nat_cmp xs → Rises low xs
unfolding Rises IsStrictlySortedBy
rises_sorted low [] least h = tt
rises_sorted low (x ∷ xs) least h = (least.0, rises_sorted (x + 1) xs (above x xs h.0) h.1)

none_below : (xs : List ℕ) → AllByRecursion (λ (y : ℕ). 0 ≤ y) xs
none_below [] = tt
none_below (x ∷ xs) = (omega arith, none_below xs)

rises_from : (xs : List ℕ) → IsStrictlyIncreasing xs → Rises 0 xs
rises_from xs h = rises_sorted 0 xs (none_below xs) (sorted_from_strictly_increasing xs h)

-- ---- the numbers below one

Within : ℕ → List ℕ → Type 0
Within high xs = AllByRecursion (λ (x : ℕ). x < high) xs

rises_more : (low high : ℕ) (xs : List ℕ) → low ≤ high → Rises low xs → Within high xs → Rises low (xs ++ high ∷ [])
unfolding Rises Within
rises_more low high [] le h within = (le, tt)
rises_more low high (x ∷ xs) le h within = (h.0, rises_more (x + 1) high xs (omega (arith, within.0)) h.1 within.1)

within_more : (high : ℕ) (xs : List ℕ) → Within high xs → Within (high + 1) (xs ++ high ∷ [])
unfolding Within
within_more high [] h = (omega arith, tt)
within_more high (x ∷ xs) h = (omega (arith, h.0), within_more high xs h.1)

below_within : (n : ℕ) → Within n (below n)
unfolding Within
below_within zero = tt
below_within (suc n) = subst (λ i. Within i (below n ++ n ∷ [])) (omega arith) (within_more n (below n) (below_within n))

below_rises : (n : ℕ) → Rises 0 (below n)
unfolding Rises
below_rises zero = tt
below_rises (suc n) = rises_more 0 n (below n) (omega arith) (below_rises n) (below_within n)

in_front : (xs ys : List ℕ) (k : ℕ) → Contains xs k → Contains (xs ++ ys) k
in_front [] ys k there = absurd (Contains-nothing k there)
in_front (x ∷ xs) ys k there = elim (Contains-cons_cases x k xs there) [
  | inl same ↦ Contains-first x k (xs ++ ys) same
  | inr rest ↦ Contains-behind x k (xs ++ ys) (in_front xs ys k rest)
]

at_end : (xs : List ℕ) (k n : ℕ) → n ≡ k → Contains (xs ++ n ∷ []) k
at_end [] k n same = Contains-first n k [] same
at_end (x ∷ xs) k n same = Contains-behind x k (xs ++ n ∷ []) (at_end xs k n same)

in_below : (n k : ℕ) → k < n → Contains (below n) k
in_below zero k lt = absurd (omega (arith, lt))
in_below (suc n) k lt = elim (cases_lt k n) [
  | inl less ↦ in_front (below n) (n ∷ []) k (in_below n k less)
  | inr more ↦ at_end (below n) k n (omega (arith, lt, more))
]

rises_lower : (low high : ℕ) (xs : List ℕ) → low ≤ high → Rises high xs → Rises low xs
unfolding Rises
rises_lower low high [] le h = tt
rises_lower low high (x ∷ xs) le h = (omega (arith, le, h.0), h.1)

rises_kept : (b : Bool) (low x : ℕ) (xs : List ℕ) → low ≤ x → Rises (x + 1) xs → Rises low (if b then x ∷ xs else xs)
unfolding Rises
rises_kept true low x xs le h = (le, h)
rises_kept false low x xs le h = rises_lower low (x + 1) xs (omega (arith, le)) h

rises_filter : (test : ℕ → Bool) (low : ℕ) (xs : List ℕ) → Rises low xs → Rises low (filter test xs)
unfolding Rises
rises_filter test low [] h = tt
rises_filter test low (x ∷ xs) h = rises_kept (test x) low x (filter test xs) h.0 (rises_filter test (x + 1) xs h.1)

-- ---- what an item touches

module _ (p : Setting) where
  abbrev writes_to : ℕ → List Write → Bool
  writes_to page writes = list_any (λ (write : Write). (row_place p.rows write.key).page == page) writes

  either_left : (a b : Bool) → a ≡ true → (a || b) ≡ true
  either_left true b e = refl
  either_left false b e = absurd cc

  either_right : (a b : Bool) → b ≡ true → (a || b) ≡ true
  either_right true b e = refl
  either_right false b e = e

  -- the last write to a key is to its page
  latest_by : (key : Key) (page : ℕ) (write : Write) (rest : Bool) (o : Option Write) (b : Bool) → key_eq write.key key ≡ b → (row_place p.rows key).page ≡ page → (IsSome o → rest ≡ true)
      → IsSome (option_or o (if b then Some write else None)) → (((row_place p.rows write.key).page == page) || rest) ≡ true
  latest_by key page write rest (Some x) b is there later some = either_right ((row_place p.rows write.key).page == page) rest (later refl)
  latest_by key page write rest None true is there later some =
      let same : write.key ≡ key = key_eq-true write.key key is in
      let here : (row_place p.rows write.key).page ≡ page = ap (λ (k : Key). (row_place p.rows k).page) same ∙ there in
      either_left ((row_place p.rows write.key).page == page) rest (grind (arith, nat_tests, here))
  latest_by key page write rest None false is there later some = absurd cc

  some_latest : (key : Key) (page : ℕ) (writes : List Write) → (row_place p.rows key).page ≡ page → IsSome (latest (λ (write : Write). key_eq write.key key) writes) → writes_to page writes ≡ true
  some_latest key page [] there some = absurd cc
  some_latest key page (write ∷ writes) there some =
      latest_by key page write (writes_to page writes) (latest (λ (w : Write). key_eq w.key key) writes) (key_eq write.key key) refl there (some_latest key page writes there) some

  -- and a write to a page is the last one of some key there
  record Wrote (page : ℕ) (writes : List Write) : Type 0 where
    key : Key
    row : IsRow p.rows key
    there : (row_place p.rows key).page ≡ page
    some : IsSome (latest (λ (write : Write). key_eq write.key key) writes)

  some_more : (o : Option Write) (p : Option Write) → IsSome o → IsSome (option_or o p)
  some_more (Some x) p some = refl
  some_more None p some = absurd cc

  some_last : (o : Option Write) (write : Write) (b : Bool) → b ≡ true → IsSome (option_or o (if b then Some write else None))
  some_last (Some x) write b e = refl
  some_last None write true e = refl
  some_last None write false e = absurd cc

  wrote_step : (page : ℕ) (write : Write) (writes : List Write) (b : Bool) → ((row_place p.rows write.key).page == page) ≡ b → has_row p.rows write.key ≡ true → (writes_to page writes ≡ true → Wrote page writes) → (b || writes_to page writes) ≡ true
      → Wrote page (write ∷ writes)
  wrote_step page write writes true is inside later touches = record {
    key = write.key;
    row = grind (arith, nat_tests, inside);
    there = grind (arith, nat_tests, is);
    some = some_last (latest (λ (w : Write). key_eq w.key write.key) writes) write (key_eq write.key write.key) (key_eq_refl write.key);
  }
  wrote_step page write writes false is inside later touches =
      let r = later touches in
      record { key = r.key; row = r.row; there = r.there; some = some_more (latest (λ (w : Write). key_eq w.key r.key) writes) (if key_eq write.key r.key then Some write else None) r.some }

  wrote : (page : ℕ) (writes : List Write) → list_all (has_row p.rows) (map (λ (write : Write). write.key) writes) ≡ true → writes_to page writes ≡ true → Wrote page writes
  wrote page [] inside touches = absurd cc
  wrote page (write ∷ writes) inside touches =
      let others = list_all (has_row p.rows) (map (λ (w : Write). w.key) writes) in
      wrote_step page write writes ((row_place p.rows write.key).page == page) refl (and_left (has_row p.rows write.key) others inside) (λ later. wrote page writes (and_right (has_row p.rows write.key) others inside) later) touches

  -- ---- what the items touch

  made : (o : Option Write) → IsSome o → IsSome (overlaid None o)
  made (Some write) some = refl
  made None some = absurd cc

  from_made : (o : Option Write) → IsSome (overlaid None o) → IsSome o
  from_made (Some write) some = refl
  from_made None some = absurd cc

  touch_by : (b : Bool) (writes : List Write) (key : Key) (page : ℕ) → (row_place p.rows key).page ≡ page → IsSome (made_by (if b then writes else []) key) → (b && writes_to page writes) ≡ true
  touch_by true writes key page there some = some_latest key page writes there (from_made (latest (λ (write : Write). key_eq write.key key) writes) some)
  touch_by false writes key page there some = absurd cc

  -- what an item among the first changed they touched
  touched_at : (items : List Judged) (i past : ℕ) (key : Key) (page : ℕ) → i < past → (row_place p.rows key).page ≡ page → IsSome (made_by (slice_index_or (map effect_of items) i []) key) → is_touched p.rows (take past items) page ≡ true
  touched_at items i zero key page lt there some = absurd (omega (arith, lt))
  touched_at [] zero (suc past) key page lt there some = absurd cc
  touched_at [] (suc i) (suc past) key page lt there some = absurd cc
  touched_at (j ∷ js) zero (suc past) key page lt there some = either_left (counts j && writes_to page (writes_of j.item)) (is_touched p.rows (take past js) page) (touch_by (counts j) (writes_of j.item) key page there some)
  touched_at (j ∷ js) (suc i) (suc past) key page lt there some = either_right (counts j && writes_to page (writes_of j.item)) (is_touched p.rows (take past js) page) (touched_at js i past key page (omega (arith, lt)) there some)

  -- and the other way round
  record Change (items : List Judged) (past page : ℕ) : Type 0 where
    i : ℕ
    before : i < past
    key : Key
    row : IsRow p.rows key
    there : (row_place p.rows key).page ≡ page
    some : IsSome (made_by (slice_index_or (map effect_of items) i []) key)

  change_by : (b : Bool) (writes : List Write) (key : Key) → b ≡ true → IsSome (latest (λ (write : Write). key_eq write.key key) writes) → IsSome (made_by (if b then writes else []) key)
  change_by true writes key is some = made (latest (λ (write : Write). key_eq write.key key) writes) some
  change_by false writes key is some = absurd cc

  change_step : (S : State) (j : Judged) (js : List Judged) (past page : ℕ) → j.verdict ≡ judge p S.position S.kept j.item → (is_touched p.rows (take past js) page ≡ true → Change js past page) → (b : Bool) → (counts j && writes_to page (writes_of j.item)) ≡ b
      → (b || is_touched p.rows (take past js) page) ≡ true → Change (j ∷ js) (suc past) page
  change_step S j js past page verdict later true is touches =
      let commits : counts j ≡ true = and_left (counts j) (writes_to page (writes_of j.item)) is in
      let inside = commits_writes_inside p S.position S.kept j.item (ap is_commit (sym verdict) ∙ commits) in
      let w = wrote page (writes_of j.item) inside (and_right (counts j) (writes_to page (writes_of j.item)) is) in
      record { i = 0; before = omega arith; key = w.key; row = w.row; there = w.there; some = change_by (counts j) (writes_of j.item) w.key commits w.some }
  change_step S j js past page verdict later false is touches =
      let c = later touches in
      record { i = suc c.i; before = omega (arith, c.before); key = c.key; row = c.row; there = c.there; some = c.some }

  change_of : (S : State) (items : List Judged) (past page : ℕ) → AreJudgedFrom p S items → is_touched p.rows (take past items) page ≡ true → Change items past page
  change_of S items zero page judged touches = absurd cc
  change_of S [] (suc past) page judged touches = absurd cc
  change_of S (j ∷ js) (suc past) page judged touches =
      change_step S j js past page judged.1 (λ later. change_of (advanced p S j) js past page judged.2 later) (counts j && writes_to page (writes_of j.item)) refl touches

  -- ---- the pages with a change

  module _ (places : RowPlacesAreTold) (S : State) (base : ℕ) (items : List Judged) (kept : Kept) (past : ℕ) (judged : AreJudgedFrom p S items) (versions : AreVersionsOf base (map effect_of items) kept) where
    written_behind : (i : ℕ) → written_at base (map effect_of items) (base + suc i) ≡ slice_index_or (map effect_of items) i []
    written_behind i = grind (arith, nat_tests)

    -- what the item of a seqno behind the base made
    at_seqno : (key : Key) (i : ℕ) → version_at kept key (base + suc i) ≡ made_by (slice_index_or (map effect_of items) i []) key
    at_seqno key i = versions key (base + suc i) ∙ ap (λ writes. made_by writes key) (written_behind i)

    to_touched : (page : ℕ) → HasChange kept p.rows base (base + past) page → Contains (touched p.rows (take past items)) page
    to_touched page c =
        let key = c.version.key in
        let i = c.version.seqno - (base + 1) in
        let seqno : c.version.seqno ≡ base + suc i = omega (arith, c.within.above) in
        let some : IsSome (made_by (slice_index_or (map effect_of items) i []) key) = subst IsSome (ap (version_at kept key) seqno ∙ at_seqno key i) c.stands in
        let lt : page < pages_of p.rows = subst (λ k. k < pages_of p.rows) c.there (places.within p.rows key c.within.row) in
        Contains-filter (is_touched p.rows (take past items)) (below (pages_of p.rows)) page (in_below (pages_of p.rows) page lt)
        (touched_at items i past key page (omega (arith, c.within.up_to, c.within.above)) c.there some)

    from_touched : (page : ℕ) → Contains (touched p.rows (take past items)) page → HasChange kept p.rows base (base + past) page
    from_touched page there =
        let c = change_of S items past page judged (Contains-from_filter (is_touched p.rows (take past items)) (below (pages_of p.rows)) page there).1 in
        record {
          version = record { key = c.key; seqno = base + suc c.i };
          stands = subst IsSome (sym (at_seqno c.key c.i)) c.some;
          within = record { above = omega arith; up_to = omega (arith, c.before); row = c.row };
          there = c.there;
        }

    pub are_touched : (pages : List ℕ) → ArePages kept p.rows base (base + past) pages → pages ≡ touched p.rows (take past items)
    are_touched pages h =
        same_list 0 pages (touched p.rows (take past items)) (rises_from pages h.ascend) (rises_filter (is_touched p.rows (take past items)) 0 (below (pages_of p.rows)) (below_rises (pages_of p.rows)))
        (λ page there. to_touched page (h.only page there)) (λ page there. h.all page (from_touched page there))
