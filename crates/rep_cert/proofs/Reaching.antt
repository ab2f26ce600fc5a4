-- How far back the windows reach, as items come and are undone.
use Rattle.std.proofs.Common.{◌≡◌, ℕ, zero, suc, ◌+◌, ◌-◌, ◌<◌, ◌≤◌, false, true, Bool, List, [], ◌∷◌, ◌++◌, length, take, drop, get_or, refl, ap, ◌∙◌, arith}
use Rattle.std.proofs.Math.ListN.{get_or-append}
use Rattle.std.proofs.lemmas.List.{length-drop, length-take-le, length_push, get_or-drop, get_or-take, get_or_push, drop-drop, drop-append-le, take_at}
use Rattle.circular_buffer.specs.Buffer.{keep_last}
use Rattle.rep_types.specs.declared.limits.TheConstants.{MAX_WINDOW}
use Rattle.rep_types.specs.declared.reach.Reach.{Reach}
use Rattle.rep_cert.specs.declared.reaches.TheConstants.{KEPT_REACHES}
use Rattle.rep_cert.specs.Holdings.{back, no_reach}
use Rattle.rep_cert.specs.Kept.{oldest, former_reaches, Reached}

-- no more elements than are kept stay as they are
pub keep_last_all : {A : Type 0} (n : ℕ) (xs : List A) → length xs ≤ n → keep_last n xs ≡ xs
keep_last_all n xs few =
    let none : length xs - n ≡ 0 = omega arith in
    ap (λ (k : ℕ). drop k xs) none

-- of the last elements fewer last ones
pub keep_last-keep_last : {A : Type 0} (n m : ℕ) (xs : List A) → n ≤ m → keep_last n (keep_last m xs) ≡ keep_last n xs
keep_last-keep_last n m xs fewer =
    let first : ℕ = length xs - m in
    let same : first + (length (drop first xs) - n) ≡ length xs - n = omega (arith, length-drop first xs) in
    drop-drop (length (drop first xs) - n) first xs ∙ ap (λ (k : ℕ). drop k xs) same

-- the last of the reaches
pub back_last : (rs : List Reach) (r : Reach) → back (rs ++ r ∷ []) 0 ≡ r
back_last rs r = get_or_push rs r no_reach (length (rs ++ r ∷ []) - 0 - 1) (omega (arith, length_push rs r))

-- those before it
pub back_push : (rs : List Reach) (r : Reach) (j : ℕ) → j < length rs → back (rs ++ r ∷ []) (j + 1) ≡ back rs j
back_push rs r j inside =
    let same : length (rs ++ r ∷ []) - (j + 1) - 1 ≡ length rs - j - 1 = omega (arith, length_push rs r) in
    ap (λ (i : ℕ). get_or (rs ++ r ∷ []) i no_reach) same ∙ get_or-append rs (r ∷ []) no_reach (length rs - j - 1) (omega arith)

-- those that are kept
pub back_keep_last : (n : ℕ) (rs : List Reach) (j : ℕ) → j < n → j < length rs → back (keep_last n rs) j ≡ back rs j
back_keep_last n rs j kept inside =
    let first : ℕ = length rs - n in
    let same : first + (length (drop first rs) - j - 1) ≡ length rs - j - 1 = omega (arith, length-drop first rs) in
    get_or-drop first rs (length (drop first rs) - j - 1) no_reach ∙ ap (λ (i : ℕ). get_or rs i no_reach) same

-- those before the last item
pub back_former : (rs : List Reach) (j : ℕ) → j + 1 < length rs → back (former_reaches rs) j ≡ back rs (j + 1)
back_former rs j inside =
    let front : ℕ = length rs - 1 in
    let long : length (take front rs) ≡ front = length-take-le front rs (omega arith) in
    let same : length (take front rs) - j - 1 ≡ length rs - (j + 1) - 1 = omega (arith, long) in
    get_or-take front rs (length (take front rs) - j - 1) no_reach (omega (arith, long)) ∙ ap (λ (i : ℕ). get_or rs i no_reach) same

-- without the last of those that are kept with one more, there are those kept before it
pub former_push : (n m : ℕ) (rs : List Reach) (r : Reach) → m ≡ n + 1 → former_reaches (keep_last m (rs ++ r ∷ [])) ≡ keep_last n rs
former_push n m rs r one_more =
    let first : ℕ = length rs - n in
    let kept : List Reach = drop first rs in
    let same : length (rs ++ r ∷ []) - m ≡ first = omega (arith, length_push rs r) in
    let split : keep_last m (rs ++ r ∷ []) ≡ kept ++ r ∷ [] =
    ap (λ (k : ℕ). drop k (rs ++ r ∷ [])) same ∙ drop-append-le first rs (r ∷ []) (omega arith) in
    ap former_reaches split ∙ take_at kept (r ∷ []) (length (kept ++ r ∷ []) - 1) (omega (arith, length_push kept r))

-- how many are kept
pub length_kept : (n : ℕ) (rs : List Reach) (r : Reach) (least : ℕ) → least ≤ n → least ≤ length rs + 1 → least ≤ length (keep_last n (rs ++ r ∷ []))
length_kept n rs r least few there = omega (arith, length-drop (length (rs ++ r ∷ []) - n) (rs ++ r ∷ []), length_push rs r)

-- one more reach stands last
pub back_kept_last : (n : ℕ) (rs : List Reach) (r : Reach) → 0 < n → back (keep_last n (rs ++ r ∷ [])) 0 ≡ r
back_kept_last n rs r some = back_keep_last n (rs ++ r ∷ []) 0 some (omega (arith, length_push rs r)) ∙ back_last rs r

-- and the others one place before where they stood
pub back_kept : (n : ℕ) (rs : List Reach) (r : Reach) (j : ℕ) → j + 1 < n → j < length rs → back (keep_last n (rs ++ r ∷ [])) (j + 1) ≡ back rs j
back_kept n rs r j kept inside = back_keep_last n (rs ++ r ∷ []) (j + 1) kept (omega (arith, length_push rs r)) ∙ back_push rs r j inside

-- ---- what holds of the reaches

-- a certifier that is made has one
pub Reached_made : (position : ℕ) (r : Reach) → position + 1 ≤ r.floor + MAX_WINDOW → Reached position position false (r ∷ []) KEPT_REACHES
Reached_made position r near = record {
  few = omega arith;
  room = refl;
  enough = omega arith;
  more = λ never. cc;
  rises = λ i j before inside.
      let same : i ≡ j = omega arith in
      omega (arith, ap (λ (k : ℕ). (back (r ∷ []) k).floor) same);
  spans = λ j inside.
      let none : j ≡ 0 = omega arith in
      omega (arith, ap (λ (k : ℕ). (back (r ∷ []) k).floor) none, ap (λ (q : Reach). q.floor) (back_last [] r));
}

module _ (made d : ℕ) (undoable : Bool) (rs : List Reach) (capacity : ℕ) (start : made ≤ d) (reached : Reached made d undoable rs capacity) where
  -- there is a reach
  pub some_reach : 0 < length rs
  some_reach = omega (arith, reached.enough)

  -- one more reach, whose floor is no lower
  module _ (r : Reach) (raises : (back rs 0).floor ≤ r.floor) (near : d + 1 + 1 ≤ r.floor + MAX_WINDOW) where
    abbrev more_reaches : List Reach
    more_reaches = keep_last KEPT_REACHES (rs ++ r ∷ [])

    inside_of : (j : ℕ) → j + 1 < length more_reaches → (j < length rs) × (j + 1 < KEPT_REACHES)
    inside_of j inside =
        let long = length-drop (length (rs ++ r ∷ []) - KEPT_REACHES) (rs ++ r ∷ []) in
        (omega (arith, long, length_push rs r), omega (arith, long, length_push rs r))

    last_is : back more_reaches 0 ≡ r
    last_is = back_kept_last KEPT_REACHES rs r (omega arith)

    rises_more : (i j : ℕ) → i ≤ j → j < length more_reaches → (back more_reaches j).floor ≤ (back more_reaches i).floor
    rises_more zero zero before inside = omega arith
    rises_more zero (suc j) before inside =
        let next : suc j ≡ j + 1 = omega arith in
        let within = inside_of j (omega arith) in
        let there : back more_reaches (suc j) ≡ back rs j = ap (back more_reaches) next ∙ back_kept KEPT_REACHES rs r j within.1 within.0 in
        omega (arith, ap (λ (q : Reach). q.floor) there, ap (λ (q : Reach). q.floor) last_is, raises, reached.rises 0 j (omega arith) within.0)
    rises_more (suc i) zero before inside = absurd (omega arith)
    rises_more (suc i) (suc j) before inside =
        let next_i : suc i ≡ i + 1 = omega arith in
        let next_j : suc j ≡ j + 1 = omega arith in
        let within = inside_of j (omega arith) in
        let at_j : back more_reaches (suc j) ≡ back rs j = ap (back more_reaches) next_j ∙ back_kept KEPT_REACHES rs r j within.1 within.0 in
        let at_i : back more_reaches (suc i) ≡ back rs i =
        ap (back more_reaches) next_i ∙ back_kept KEPT_REACHES rs r i (omega (arith, within.1)) (omega (arith, within.0)) in
        omega (arith, ap (λ (q : Reach). q.floor) at_j, ap (λ (q : Reach). q.floor) at_i, reached.rises i j (omega arith) within.0)

    spans_more : (j : ℕ) → j < length more_reaches → d + 1 + 1 ≤ (back more_reaches j).floor + MAX_WINDOW + j
    spans_more zero inside = omega (arith, near, ap (λ (q : Reach). q.floor) last_is)
    spans_more (suc j) inside =
        let next : suc j ≡ j + 1 = omega arith in
        let within = inside_of j (omega arith) in
        let there : back more_reaches (suc j) ≡ back rs j = ap (back more_reaches) next ∙ back_kept KEPT_REACHES rs r j within.1 within.0 in
        omega (arith, ap (λ (q : Reach). q.floor) there, reached.spans j within.0)

    pub Reached_push : Reached made (d + 1) true more_reaches KEPT_REACHES
    Reached_push = record {
      few = omega (arith, length-drop (length (rs ++ r ∷ []) - KEPT_REACHES) (rs ++ r ∷ []));
      room = refl;
      enough =
          let least : d + 1 + 1 - oldest made (d + 1) ≤ length more_reaches =
          length_kept KEPT_REACHES rs r (d + 1 + 1 - oldest made (d + 1)) (omega arith) (omega (arith, reached.enough)) in
          omega (arith, least);
      more = λ now.
          let least : d + 1 + 1 - oldest made (d + 1 - 1) ≤ length more_reaches =
          length_kept KEPT_REACHES rs r (d + 1 + 1 - oldest made (d + 1 - 1)) (omega arith) (omega (arith, reached.enough)) in
          omega (arith, least);
      rises = rises_more;
      spans = spans_more;
    }

-- without the last item
pub Reached_pop : (made d : ℕ) (undoable : Bool) (rs : List Reach) (capacity : ℕ) → undoable ≡ true → made < d → Reached made d undoable rs capacity →
    Reached made (d - 1) false (former_reaches rs) capacity
Reached_pop made d undoable rs capacity is start reached =
    let long : length (former_reaches rs) ≡ length rs - 1 = length-take-le (length rs - 1) rs (omega arith) in
    record {
      few = omega (arith, long, reached.few);
      room = reached.room;
      enough = omega (arith, long, reached.more is);
      more = λ never. cc;
      rises = λ i j before inside.
          let within : j + 1 < length rs = omega (arith, long) in
          omega (
            arith,
            ap (λ (q : Reach). q.floor) (back_former rs j within),
            ap (λ (q : Reach). q.floor) (back_former rs i (omega (arith, within))),
            reached.rises (i + 1) (j + 1) (omega arith) within,
          );
      spans = λ j inside.
          let within : j + 1 < length rs = omega (arith, long) in
          omega (arith, ap (λ (q : Reach). q.floor) (back_former rs j within), reached.spans (j + 1) within);
    }
