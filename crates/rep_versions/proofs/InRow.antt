-- The versions of a row in the order of their seqnos: look-ups among them, and what edits leave.
use Rattle.std.proofs.Common.{◌≡◌, ◌∙◌, refl, sym, ap, subst, ℕ, zero, suc, ◌+◌, ◌-◌, ◌<◌, ◌≤◌, ◌⊎◌, inl, inr, Bool, true, false, cond, ◌==◌, leb, leb-true, [], ◌∷◌, length, Option, Some, None, arith}
use Rattle.std.specs.Prelude.{slice_index_or, slice_set}
use Rattle.std.specs.declared.cmp.Ordering.TheVariants.{Less, Greater}
use Rattle.std.specs.List.{slice_get, filter, insert}
use Rattle.std.specs.List.Sorted.{IsStrictlySortedBy, IsNonDecreasingBy, IsPartitionPoint}
use Rattle.std.specs.Map.{keys_of}
use Rattle.std.specs.BTreeMap.{is_at}
use Rattle.std.specs.Ordering.{nat_cmp}
use Rattle.std.specs.Cmp.{nat_cmp_total, eq_by_cmp_equiv}
use Rattle.std.proofs.lemmas.Bool.{cases_lt}
use Rattle.std.proofs.lemmas.Bool.Decides.{nat_tests}
use Rattle.std.proofs.lemmas.List.{get_or-map}
use Rattle.std.proofs.lemmas.List.Edits.{length-insert, get_or-insert_below, get_or-insert_at, get_or-insert_above}
use Rattle.std.proofs.lemmas.List.Kept.{IsStrictlySortedBy-filter}
use Rattle.std.proofs.lemmas.Map.{lookup-insert, none_passes_from_lookup}
use Rattle.std.proofs.lemmas.Map.Entries.{lookup_from_place, lookup_at_gap}
use Rattle.std.proofs.lemmas.Map.Keys.{IsDistinct-from_sorted, below_from_sorted, sorted_from_strictly_increasing, sorted_tail}
use Rattle.std.proofs.lemmas.Option.{slice_get-get_or, get_or_from_slice_get, slice_get_within}
use Rattle.std.proofs.Math.Seq.{map-set_same}
use Rattle.rep_versions.specs.Versions.{Version}
use Rattle.rep_versions.specs.Rows.{RowVersions, made_at, SplitsAt, IsPlace, IsGap, IsNewestOf}

-- the seqnos of a row rise
abbrev pub Rises : RowVersions → Type 0
Rises row = IsStrictlySortedBy nat_cmp (keys_of row)

pub rises_alone : (s : ℕ) (v : Version) → Rises ((s, v) ∷ [])
rises_alone s v = sorted_from_strictly_increasing (s ∷ []) (λ k lt. absurd (omega (arith, lt)))

seqno_at : (row : RowVersions) (k e : ℕ) (d : ℕ × Version) → k < length row → slice_index_or (keys_of row) k e ≡ (slice_index_or row k d).0
seqno_at row k e d lt = get_or-map (λ (v : ℕ × Version). v.0) row k d e lt

length_keys : (row : RowVersions) → length (keys_of row) ≡ length row
length_keys [] = refl
length_keys (v ∷ row) = ap suc (length_keys row)

seqno_below : (row : RowVersions) (i j : ℕ) (d : ℕ × Version) → Rises row → i < j → j < length row → (slice_index_or row i d).0 < (slice_index_or row j d).0
seqno_below row i j d rises lt in_row =
    let h = below_from_sorted (keys_of row) i j 0 rises lt (omega (arith, in_row, length_keys row)) in
    omega (arith, h, seqno_at row i 0 d (omega (arith, lt, in_row)), seqno_at row j 0 d in_row)

pub no_fall : (row : RowVersions) → Rises row → IsNonDecreasingBy (λ v. v.0) row
no_fall row rises i j d le in_row = by (cases_lt i j)
  where
    by : ((i < j) ⊎ (j ≤ i)) → (slice_index_or row i d).0 ≤ (slice_index_or row j d).0
    by (inl lt) = omega (arith, seqno_below row i j d rises lt in_row)
    by (inr ge) = let same : i ≡ j = omega (arith, le, ge) in subst (λ n. (slice_index_or row i d).0 ≤ (slice_index_or row n d).0) same (omega arith)

pub splits : (row : RowVersions) (s count : ℕ) → count ≤ length row → IsPartitionPoint (λ (v : ℕ × Version). leb v.0 s ≡ true) (λ (v : ℕ × Version). leb v.0 s ≡ false) row count → SplitsAt row s count
splits row s count bound point = record {
  bound = bound;
  within = λ k d lt. leb-true _ _ (point.0 k d (omega arith) lt);
  above = λ k d ge lt. let h = point.1 k d ge lt in grind (arith, nat_tests, h);
}

-- where the newest is at most at the seqno, all are
pub all_up_to : (row : RowVersions) (s : ℕ) (newest : ℕ × Version) → Rises row → slice_get row (length row - 1) ≡ Some newest → newest.0 ≤ s → SplitsAt row s (length row)
all_up_to row s newest rises last le = record {
  bound = omega arith;
  within = λ k d lt.
      let top = ap (λ (w : ℕ × Version). w.0) (get_or_from_slice_get row (length row - 1) newest d last) in
      omega (arith, le, top, no_fall row rises k (length row - 1) d (omega (arith, lt)) (omega (arith, lt)));
  above = λ k d ge lt. absurd (omega (arith, ge, lt));
}

-- ---- look-ups

pub found_at_place : (row : RowVersions) (i : ℕ) (d : ℕ × Version) → Rises row → i < length row → made_at row (slice_index_or row i d).0 ≡ Some (slice_index_or row i d).1
found_at_place row i d rises lt = lookup_from_place (eq_by_cmp_equiv nat_cmp_total) row i _ _ (IsDistinct-from_sorted nat_cmp (keys_of row) rises) (slice_get-get_or row i d lt)

is_less : (a b : ℕ) → a < b → nat_cmp a b ≡ Less
is_less a b h = grind (arith, nat_tests)

is_greater : (a b : ℕ) → b < a → nat_cmp a b ≡ Greater
is_greater a b h = grind (arith, nat_tests)

pub none_at_gap : (row : RowVersions) (s i : ℕ) → Rises row → IsGap row s i → made_at row s ≡ None
none_at_gap row s i rises gap = lookup_at_gap nat_cmp_total s row i rises
    (λ j e lt h. is_greater s e.0 (subst (λ (v : ℕ × Version). v.0 < s) (get_or_from_slice_get row j e e h) (gap.below j e lt)))
    (λ e h. is_less s e.0 (subst (λ (v : ℕ × Version). s < v.0) (get_or_from_slice_get row i e e h) (gap.above i e (omega arith) (slice_get_within row i e h))))

-- none of the first so many is at the seqno
gap_above : (row : RowVersions) (s t count : ℕ) → SplitsAt row s count → t ≤ s → ((k : ℕ) (d : ℕ × Version) → k < count → (slice_index_or row k d).0 < t) → IsGap row t count
gap_above row s t count split le below = record {
  bound = split.bound;
  below = below;
  above = λ k d ge lt. omega (arith, le, split.above k d ge lt);
}

up_to_last : (row : RowVersions) (count last k : ℕ) (d : ℕ × Version) → Rises row → count ≤ length row → last + 1 ≡ count → k < count → (slice_index_or row k d).0 ≤ (slice_index_or row last d).0
up_to_last row count last k d rises bound e lt = no_fall row rises k last d (omega (arith, e, lt)) (omega (arith, e, bound))

pub newest_is : (row : RowVersions) (s count last : ℕ) (v : ℕ × Version) → Rises row → SplitsAt row s count → last + 1 ≡ count → v ≡ slice_index_or row last v → IsNewestOf row s v
newest_is row s count last v rises split e at =
    let found = found_at_place row last v rises (omega (arith, e, split.bound)) in record {
      stands = subst (λ (w : ℕ × Version). made_at row w.0 ≡ Some w.1) (sym at) found;
      within = subst (λ (w : ℕ × Version). w.0 ≤ s) (sym at) (split.within last v (omega (arith, e)));
      none_above = λ t lt le. none_at_gap row t count rises (gap_above row s t count split le (λ k d before.
          let most = up_to_last row count last k v rises split.bound e before in
          let same : (slice_index_or row k d).0 ≡ (slice_index_or row k v).0 = sym (seqno_at row k 0 d (omega (arith, before, split.bound))) ∙ seqno_at row k 0 v (omega (arith, before, split.bound)) in
          let top : (slice_index_or row last v).0 ≡ v.0 = ap (λ (w : ℕ × Version). w.0) (sym at) in
          omega (arith, most, same, top, lt)));
    }

-- no version is up to there, where all are above
none_below : (row : RowVersions) (t : ℕ) → ((k : ℕ) (d : ℕ × Version) → k < length row → t < (slice_index_or row k d).0) → made_at row t ≡ None
none_below [] t above = refl
none_below (v ∷ row) t above =
    let first = above 0 v (omega arith) in
    let apart : is_at (nat_cmp t) v.0 ≡ false = grind (arith, nat_tests, first) in
    ap (λ b. cond b (Some v.1) (made_at row t)) apart ∙ none_below row t (λ k d lt. above (suc k) d (omega (arith, lt)))

pub none_up_to : (row : RowVersions) (s : ℕ) → SplitsAt row s 0 → (t : ℕ) → t ≤ s → made_at row t ≡ None
none_up_to row s split t le = none_below row t (λ k d lt. omega (arith, le, split.above k d (omega arith) lt))

-- ---- the place of a seqno

pub first_gap : (row : RowVersions) (s : ℕ) → SplitsAt row s 0 → IsGap row s 0
first_gap row s split = gap_above row s s 0 split (omega arith) (λ k d lt. absurd (omega (arith, lt)))

pub place_is : (row : RowVersions) (s count last : ℕ) (v : ℕ × Version) → SplitsAt row s count → last + 1 ≡ count → v ≡ slice_index_or row last v → v.0 ≡ s → IsPlace row s last
place_is row s count last v split e at same = record {
  bound = omega (arith, e, split.bound);
  there = λ d. sym (seqno_at row last 0 d (omega (arith, e, split.bound))) ∙ seqno_at row last 0 v (omega (arith, e, split.bound)) ∙ ap (λ (w : ℕ × Version). w.0) (sym at) ∙ same;
}

pub gap_is : (row : RowVersions) (s count last : ℕ) (v : ℕ × Version) → Rises row → SplitsAt row s count → last + 1 ≡ count → v ≡ slice_index_or row last v → (v.0 ≡ s → ⊥) → IsGap row s count
gap_is row s count last v rises split e at apart = gap_above row s s count split (omega arith) (λ k d before.
    let most = up_to_last row count last k v rises split.bound e before in
    let same : (slice_index_or row k d).0 ≡ (slice_index_or row k v).0 = sym (seqno_at row k 0 d (omega (arith, before, split.bound))) ∙ seqno_at row k 0 v (omega (arith, before, split.bound)) in
    let top : (slice_index_or row last v).0 ≡ v.0 = ap (λ (w : ℕ × Version). w.0) (sym at) in
    let up = split.within last v (omega (arith, e)) in
    below_from _ _ _ (omega (arith, most, same, top)) (omega (arith, up, top)) apart)
  where
    below_from : (a b c : ℕ) → a ≤ b → b ≤ c → (b ≡ c → ⊥) → a < c
    below_from a b c h k n = by (cases_lt b c)
      where
        by : ((b < c) ⊎ (c ≤ b)) → a < c
        by (inl lt) = omega (arith, h, lt)
        by (inr ge) = absurd (n (omega (arith, k, ge)))

-- ---- a version that is put over another

at_other : (t s : ℕ) → is_at (nat_cmp t) s ≡ (t == s)
at_other t s = grind (arith, nat_tests)

pub put_over : (row : RowVersions) (i s t : ℕ) (d : ℕ × Version) (v : Version) → Rises row → i < length row → (slice_index_or row i d).0 ≡ s
    → made_at (slice_set row i (s, v)) t ≡ cond (t == s) (Some v) (made_at row t)
put_over [] i s t d v rises lt e = absurd (omega (arith, lt))
put_over (x ∷ row) zero s t d v rises lt e = over (t == s) (ap (λ n. is_at (nat_cmp t) n) e ∙ at_other t s)
  where
    over : (b : Bool) → is_at (nat_cmp t) x.0 ≡ b → cond (is_at (nat_cmp t) s) (Some v) (made_at row t) ≡ cond (t == s) (Some v) (cond (is_at (nat_cmp t) x.0) (Some x.1) (made_at row t))
    over b h = grind (arith, nat_tests, e, at_other t s, h)
put_over (x ∷ row) (suc i) s t d v rises lt e =
    let below = seqno_below (x ∷ row) 0 (suc i) d rises (omega arith) lt in
    let rest = put_over row i s t d v (sorted_tail nat_cmp x.0 (keys_of row) rises) (omega (arith, lt)) e in
    apart (is_at (nat_cmp t) x.0) (t == s) (λ h k. absurd (grind (arith, nat_tests, below, e, h, k, at_other t x.0))) _ _ rest
  where
    apart : (a b : Bool) (never : a ≡ true → b ≡ true → ⊥) (p q : Option Version) → p ≡ cond b (Some v) q → cond a (Some x.1) p ≡ cond b (Some v) (cond a (Some x.1) q)
    apart true true never p q h = absurd (never refl refl)
    apart true false never p q h = refl
    apart false b never p q h = h

pub rises_over : (row : RowVersions) (i s : ℕ) (v : Version) → IsPlace row s i → Rises row → Rises (slice_set row i (s, v))
rises_over row i s v place rises = subst (IsStrictlySortedBy nat_cmp) (sym (map-set_same (λ (w : ℕ × Version). w.0) row i (s, v) (0, None) (sym (place.there (0, None))))) rises

-- ---- a version that is put between others

pub put_between : (row : RowVersions) (i s t : ℕ) (v : Version) → Rises row → IsGap row s i → made_at (insert row i (s, v)) t ≡ cond (t == s) (Some v) (made_at row t)
put_between row i s t v rises gap =
    lookup-insert (eq_by_cmp_equiv nat_cmp_total) s v t row i (none_passes_from_lookup _ row (none_at_gap row s i rises gap))
    ∙ ap (λ b. cond b (Some v) (made_at row t)) (grind (arith, nat_tests))

pub rises_between : (row : RowVersions) (i s : ℕ) (v : Version) → IsGap row s i → Rises row → Rises (insert row i (s, v))
rises_between row i s v gap rises = sorted_from_strictly_increasing (keys_of (insert row i (s, v))) (λ k lt.
    let many = length-insert row i (s, v) gap.bound in
    let all = length_keys (insert row i (s, v)) in
    let this = seqno_at (insert row i (s, v)) k 0 (0, None) (omega (arith, many, all, lt)) in
    let next = seqno_at (insert row i (s, v)) (k + 1) 0 (0, None) (omega (arith, many, all, lt)) in
    omega (arith, this, next, up k (cases_lt k i) (cases_lt (k + 1) i) (omega (arith, many, all, lt))))
  where
    at : ℕ → ℕ
    at k = (slice_index_or (insert row i (s, v)) k (0, None)).0

    up : (k : ℕ) → ((k < i) ⊎ (i ≤ k)) → ((k + 1 < i) ⊎ (i ≤ k + 1)) → k < length row → (slice_index_or (insert row i (s, v)) k (0, None)).0 < (slice_index_or (insert row i (s, v)) (k + 1) (0, None)).0
    up k (inr ge) (inl lt) in_row = absurd (omega (arith, ge, lt))
    up k (inl before) (inl lt) in_row =
        let low = ap (λ (w : ℕ × Version). w.0) (get_or-insert_below row i (s, v) (0, None) k before gap.bound) in
        let high = ap (λ (w : ℕ × Version). w.0) (get_or-insert_below row i (s, v) (0, None) (k + 1) lt gap.bound) in
        omega (arith, low, high, seqno_below row k (k + 1) (0, None) rises (omega arith) (omega (arith, lt, gap.bound)))
    up k (inl before) (inr ge) in_row =
        let e : k + 1 ≡ i = omega (arith, before, ge) in
        let low = ap (λ (w : ℕ × Version). w.0) (get_or-insert_below row i (s, v) (0, None) k before gap.bound) in
        let high = subst (λ n. (slice_index_or (insert row i (s, v)) n (0, None)).0 ≡ s) (sym e) (ap (λ (w : ℕ × Version). w.0) (get_or-insert_at row i (s, v) (0, None) gap.bound)) in
        omega (arith, low, high, gap.below k (0, None) before)
    up k (inr le) (inr ge) in_row = behind k (cases_lt i k)
      where
        high : (slice_index_or (insert row i (s, v)) (k + 1) (0, None)).0 ≡ (slice_index_or row k (0, None)).0
        high = ap (λ (w : ℕ × Version). w.0) (get_or-insert_above row i (s, v) (0, None) k le gap.bound)

        behind : (j : ℕ) → ((i < k) ⊎ (k ≤ i)) → (slice_index_or (insert row i (s, v)) k (0, None)).0 < (slice_index_or (insert row i (s, v)) (k + 1) (0, None)).0
        behind j (inr same) =
            let e : i ≡ k = omega (arith, le, same) in
            let low = subst (λ n. (slice_index_or (insert row i (s, v)) n (0, None)).0 ≡ s) e (ap (λ (w : ℕ × Version). w.0) (get_or-insert_at row i (s, v) (0, None) gap.bound)) in
            omega (arith, low, high, gap.above k (0, None) le in_row)
        behind j (inl lt) =
            let e : (k - 1) + 1 ≡ k = omega (arith, lt) in
            let low = subst (λ n. (slice_index_or (insert row i (s, v)) n (0, None)).0 ≡ (slice_index_or row (k - 1) (0, None)).0) e (ap (λ (w : ℕ × Version). w.0) (get_or-insert_above row i (s, v) (0, None) (k - 1) (omega (arith, lt)) gap.bound)) in
            omega (arith, low, high, seqno_below row (k - 1) k (0, None) rises (omega (arith, lt)) in_row)

-- ---- versions that go

keys_where : (p : ℕ → Bool) (row : RowVersions) → keys_of (filter (λ v. p v.0) row) ≡ filter p (keys_of row)
keys_where p [] = refl
keys_where p (v ∷ row) = step (p v.0) (keys_where p row)
  where
    step : (b : Bool) → keys_of (filter (λ w. p w.0) row) ≡ filter p (keys_of row) → keys_of (cond b (v ∷ filter (λ w. p w.0) row) (filter (λ w. p w.0) row)) ≡ cond b (v.0 ∷ filter p (keys_of row)) (filter p (keys_of row))
    step true h = ap (λ ks. v.0 ∷ ks) h
    step false h = h

pub rises_where : (p : ℕ → Bool) (row : RowVersions) → Rises row → Rises (filter (λ v. p v.0) row)
rises_where p row rises = subst (IsStrictlySortedBy nat_cmp) (sym (keys_where p row)) (IsStrictlySortedBy-filter nat_cmp p (keys_of row) rises)
