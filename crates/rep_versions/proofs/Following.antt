-- Versions to which items are added in order say what each row is after each of them.
use Rattle.std.proofs.Common.{◌≡◌, ◌∙◌, refl, sym, ap, subst, ℕ, zero, suc, ◌+◌, ◌-◌, ◌<◌, ◌≤◌, ◌⊎◌, inl, inr, Bool, true, false, if◌then◌else◌, ◌==◌, List, [], ◌∷◌, ◌++◌, length, map, take, drop, Option, Some, None, arith}
use Rattle.std.specs.Prelude.{slice_index_or, nat_le}
use Rattle.std.proofs.lemmas.Bool.{cases_lt}
use Rattle.std.proofs.lemmas.Bool.Decides.{nat_tests}
use Rattle.std.proofs.lemmas.List.{append-nil, take_more, take_all, get_or_push, get_or_past, get_or_append_left, get_or-drop, length-append, append_assoc, take-map}
use Rattle.std.proofs.Math.Numerals.{add-one}
use Rattle.std.proofs.Math.Seq.{take-add}
use Rattle.std.proofs.lemmas.List.Sums.{fold_push}
use Rattle.std.specs.FinMap.{empty, get-empty}
use Rattle.rep_types.specs.declared.key.Key.{Key}
use Rattle.rep_types.specs.declared.value.Write.{Write}
use Rattle.rep_types.specs.declared.judged.Judged.{Judged}
use Rattle.rep_types.specs.Keys.{key_eq}
use Rattle.rep_types.specs.Settings.{Setting}
use Rattle.rep_types.specs.Items.{writes_of}
use Rattle.rep_types.specs.Order.{Order, latest, is_commit, judge, history, effects, row_in, rows, read, overwritten, content_after, after}
use Rattle.rep_types.proofs.Histories.{take_history}
use Rattle.rep_types.proofs.Rows.{effects_push, row_in-append}
use Rattle.rep_versions.specs.declared.versions.At.{At}
use Rattle.rep_versions.specs.declared.versions.At.TheVariants.{Found, Deleted, Below}
use Rattle.rep_versions.specs.Versions.{Kept, Version, version_cmp, version_at, overlaid, IsAdded, IsTakenBack, IsPruned, IsNewest, IsAnswer, told, IsRowAt}
use Rattle.rep_versions.specs.Following.{Changes, made_by, written_at, AreVersionsOf, rows_after, effect_of, changes_of, VersionsFollowTheItems}

-- ---- which item wrote at a seqno

-- behind the last item nothing is written
written_past : (base : ℕ) (cs : Changes) → written_at base cs (base + length cs + 1) ≡ []
written_past base cs = grind (arith, nat_tests, get_or_past cs (base + length cs + 1 - (base + 1)) [] (omega arith))

-- one more item
written_push : (base : ℕ) (cs : Changes) (ws : List Write) (s : ℕ) → written_at base (cs ++ ws ∷ []) s ≡ (if s == base + length cs + 1 then ws else written_at base cs s)
written_push base cs ws s = at (cases_lt s (base + length cs + 1)) (cases_lt base s)
  where
    at : ((s < base + length cs + 1) ⊎ (base + length cs + 1 ≤ s)) → ((base < s) ⊎ (s ≤ base)) → written_at base (cs ++ ws ∷ []) s ≡ (if s == base + length cs + 1 then ws else written_at base cs s)
    at near (inr le) = grind (arith, nat_tests)
    at (inl lt) (inl above) = grind (arith, nat_tests, get_or_append_left cs (ws ∷ []) [] (s - (base + 1)) (omega (arith, lt, above)))
    at (inr le) (inl above) = last (cases_lt (base + length cs + 1) s)
      where
        last : (base + length cs + 1 < s) ⊎ (s ≤ base + length cs + 1) → written_at base (cs ++ ws ∷ []) s ≡ (if s == base + length cs + 1 then ws else written_at base cs s)
        last (inl gt) = grind (arith, nat_tests, get_or_past (cs ++ ws ∷ []) (s - (base + 1)) [] (omega (arith, gt, length-append cs (ws ∷ []))), get_or_past cs (s - (base + 1)) [] (omega (arith, gt)))
        last (inr on) = grind (arith, nat_tests, get_or_push cs ws [] (s - (base + 1)) (omega (arith, on, le)))

-- behind a later base
written_drop : (base position : ℕ) (cs : Changes) (s : ℕ) → base ≤ position → written_at position (drop (position - base) cs) s ≡ (if nat_le s position then [] else written_at base cs s)
written_drop base position cs s h = grind (arith, nat_tests, get_or-drop)

-- the next item
written_next : (base : ℕ) (cs : Changes) (k : ℕ) → written_at base cs (base + suc k) ≡ slice_index_or cs k []
written_next base cs k = grind (arith, nat_tests)

written_before : (base : ℕ) (cs : Changes) (m : ℕ) → m ≤ base → written_at base cs m ≡ []
written_before base cs m h = grind (arith, nat_tests)

-- without items nothing is
written_none : (base s : ℕ) → written_at base [] s ≡ []
written_none base s = grind (arith, nat_tests)

-- ---- changes of versions

none_is : (base : ℕ) → AreVersionsOf base [] empty
none_is base key s = get-empty version_cmp (record { key = key; seqno = s }) ∙ sym (ap (λ ws. made_by ws key) (written_none base s))

added_is : (base : ℕ) (cs : Changes) (ws : List Write) (before after : Kept) → AreVersionsOf base cs before → IsAdded (base + length cs + 1) ws before after → AreVersionsOf base (cs ++ ws ∷ []) after
added_is base cs ws before after are added key s = grind (arith, nat_tests, added key s, are key s, written_push base cs ws s, written_past base cs)

passed_is : (base : ℕ) (cs : Changes) (kept : Kept) → AreVersionsOf base cs kept → AreVersionsOf base (cs ++ [] ∷ []) kept
passed_is base cs kept are key s = grind (arith, nat_tests, are key s, written_push base cs [] s, written_past base cs)

taken_back_is : (base : ℕ) (cs : Changes) (ws : List Write) (before after : Kept) → AreVersionsOf base (cs ++ ws ∷ []) before → IsTakenBack (base + length cs + 1) before after → AreVersionsOf base cs after
taken_back_is base cs ws before after are back key s = grind (arith, nat_tests, back key s, are key s, written_push base cs ws s, written_past base cs)

pruned_is : (base position : ℕ) (cs : Changes) (before after : Kept) → base ≤ position → AreVersionsOf base cs before → IsPruned position before after → AreVersionsOf position (drop (position - base) cs) after
pruned_is base position cs before after le are pruned key s = grind (arith, nat_tests, pruned key s, are key s, written_drop base position cs s le)

-- ---- the newest version

-- there is one newest version
one_newest : (kept : Kept) (key : Key) (s m n : ℕ) (v w : Version) → IsNewest kept key s m v → IsNewest kept key s n w → v ≡ w
one_newest kept key s m n v w h k = grind (arith, h.stands, k.stands, h.within, k.within, h.none_above n, k.none_above m)

not_newest : (kept : Kept) (key : Key) (s m : ℕ) (v : Version) → IsNewest kept key s m v → ((n : ℕ) → n ≤ s → version_at kept key n ≡ None) → ⊥
not_newest kept key s m v h none = grind (arith, h.stands, none m h.within)

answers_are : (kept : Kept) (key : Key) (s : ℕ) (answer : At) (below : Option (List ℕ)) → IsAnswer kept key s answer → IsRowAt kept key s below (told answer below)
answers_are kept key s (Found value) below h = record { newest = λ n w k. one_newest kept key s h.0 n (Some value.now) w h.1 k; none = λ none. absurd (not_newest kept key s h.0 (Some value.now) h.1 none) }
answers_are kept key s Deleted below h = record { newest = λ n w k. one_newest kept key s h.0 n None w h.1 k; none = λ none. absurd (not_newest kept key s h.0 None h.1 none) }
answers_are kept key s Below below h = record { newest = λ n w k. absurd (not_newest kept key s n w k h); none = λ none. refl }

-- ---- the rows after items

-- what a version makes of a row
abbrev over : Option (List ℕ) → Option Version → Option (List ℕ)
over before None = before
over before (Some version) = version

made_over : (before : Option (List ℕ)) (write : Option Write) → overwritten before write ≡ over before (overlaid None write)
made_over before None = refl
made_over before (Some write) = refl

rows_more : (content : Key → Option (List ℕ)) (cs : Changes) (k : ℕ) (key : Key) → rows_after content (take (suc k) cs) key ≡ over (rows_after content (take k cs) key) (made_by (slice_index_or cs k []) key)
rows_more content cs k key = more (cases_lt k (length cs))
  where
    more : ((k < length cs) ⊎ (length cs ≤ k)) → rows_after content (take (suc k) cs) key ≡ over (rows_after content (take k cs) key) (made_by (slice_index_or cs k []) key)
    more (inl lt) = rw (← add-one k, take_more cs k [] lt, fold_push content_after content (take k cs) (slice_index_or cs k [])) (made_over (rows_after content (take k cs) key) (latest (λ (write : Write). key_eq write.key key) (slice_index_or cs k [])))
    more (inr le) = rw (take_all (suc k) cs (omega (arith, le)), take_all k cs le, get_or_past cs k [] le) refl

module _ (base : ℕ) (cs : Changes) (kept : Kept) (key : Key) (are : AreVersionsOf base cs kept) (content : Key → Option (List ℕ)) where
  next_made : (k : ℕ) → version_at kept key (base + suc k) ≡ made_by (slice_index_or cs k []) key
  next_made k = are key (base + suc k) ∙ ap (λ ws. made_by ws key) (written_next base cs k)

  none_before : (m : ℕ) → m ≤ base → version_at kept key m ≡ None
  none_before m le = are key m ∙ ap (λ ws. made_by ws key) (written_before base cs m le)

  -- no version up to there
  unmade : (k : ℕ) → ((m : ℕ) → m ≤ base + k → version_at kept key m ≡ None) → rows_after content (take k cs) key ≡ content key
  unmade zero none = refl
  unmade (suc k) none =
      rows_more content cs k key ∙ ap (over (rows_after content (take k cs) key)) (sym (next_made k) ∙ none (base + suc k) (omega arith))
      ∙ unmade k (λ m le. none m (omega (arith, le)))

  -- a newest one
  lately : (k m : ℕ) (v : Version) → IsNewest kept key (base + suc k) m v → ((m < base + suc k) ⊎ (base + suc k ≤ m))
      → IsNewest kept key (base + k) m v ⊎ (version_at kept key (base + suc k) ≡ Some v)
  lately k m v h (inl lt) = inl (record { stands = h.stands; within = omega (arith, lt); none_above = λ n above le. h.none_above n above (omega (arith, le)) })
  lately k m v h (inr le) = inr (subst (λ n. version_at kept key n ≡ Some v) (omega (arith, le, h.within)) h.stands)

  made : (k m : ℕ) (v : Version) → IsNewest kept key (base + k) m v → rows_after content (take k cs) key ≡ v
  made zero m v h = absurd (grind (arith, h.stands, none_before m (omega (arith, h.within))))
  made (suc k) m v h = rows_more content cs k key ∙ step (lately k m v h (cases_lt m (base + suc k))) (made k m v)
    where
      step : (IsNewest kept key (base + k) m v ⊎ (version_at kept key (base + suc k) ≡ Some v)) → (IsNewest kept key (base + k) m v → rows_after content (take k cs) key ≡ v)
          → over (rows_after content (take k cs) key) (made_by (slice_index_or cs k []) key) ≡ v
      step (inl newest) before = ap (over (rows_after content (take k cs) key)) (sym (next_made k) ∙ h.none_above (base + suc k) (omega (arith, newest.within)) (omega arith)) ∙ before newest
      step (inr top) before = ap (over (rows_after content (take k cs) key)) (sym (next_made k) ∙ top)

-- what is found at a seqno
looked_up : (kept : Kept) (key : Key) (n : ℕ) → (((v : Version) × (version_at kept key n ≡ Some v)) ⊎ (version_at kept key n ≡ None))
looked_up kept key n = is (version_at kept key n) refl
  where
    is : (o : Option Version) → version_at kept key n ≡ o → (((v : Version) × (version_at kept key n ≡ Some v)) ⊎ (version_at kept key n ≡ None))
    is None e = inr e
    is (Some v) e = inl (v, e)

-- up to a snapshot there is a newest version, or none
newest_or_none : (kept : Kept) (key : Key) (n : ℕ) → (((m : ℕ) × (v : Version) × IsNewest kept key n m v) ⊎ ((m : ℕ) → m ≤ n → version_at kept key m ≡ None))
newest_or_none kept key zero = first (looked_up kept key 0)
  where
    first : ((v : Version) × (version_at kept key 0 ≡ Some v)) ⊎ (version_at kept key 0 ≡ None) → (((m : ℕ) × (v : Version) × IsNewest kept key 0 m v) ⊎ ((m : ℕ) → m ≤ 0 → version_at kept key m ≡ None))
    first (inl h) = inl (0, h.0, record { stands = h.1; within = omega arith; none_above = λ n lt le. absurd (omega (arith, lt, le)) })
    first (inr h) = inr (λ m le. subst (λ n. version_at kept key n ≡ None) (omega (arith, le)) h)
newest_or_none kept key (suc n) = next (looked_up kept key (suc n)) (newest_or_none kept key n)
  where
    none_at : version_at kept key (suc n) ≡ None → ((m : ℕ) → m ≤ n → version_at kept key m ≡ None) → (m : ℕ) → ((m < suc n) ⊎ (suc n ≤ m)) → m ≤ suc n → version_at kept key m ≡ None
    none_at top below m (inl lt) le = below m (omega (arith, lt))
    none_at top below m (inr ge) le = subst (λ n. version_at kept key n ≡ None) (omega (arith, ge, le)) top

    above : version_at kept key (suc n) ≡ None → (m : ℕ) (v : Version) → IsNewest kept key n m v → (k : ℕ) → ((k < suc n) ⊎ (suc n ≤ k)) → m < k → k ≤ suc n → version_at kept key k ≡ None
    above top m v h k (inl lt) higher le = h.none_above k higher (omega (arith, lt))
    above top m v h k (inr ge) higher le = subst (λ n. version_at kept key n ≡ None) (omega (arith, ge, le)) top

    next : ((v : Version) × (version_at kept key (suc n) ≡ Some v)) ⊎ (version_at kept key (suc n) ≡ None)
        → ((m : ℕ) × (v : Version) × IsNewest kept key n m v) ⊎ ((m : ℕ) → m ≤ n → version_at kept key m ≡ None)
        → (((m : ℕ) × (v : Version) × IsNewest kept key (suc n) m v) ⊎ ((m : ℕ) → m ≤ suc n → version_at kept key m ≡ None))
    next (inl h) before = inl (suc n, h.0, record { stands = h.1; within = omega arith; none_above = λ k lt le. absurd (omega (arith, lt, le)) })
    next (inr h) (inl b) = inl (b.0, b.1, record { stands = b.2.stands; within = omega (arith, b.2.within); none_above = λ k lt le. above h b.0 b.1 b.2 k (cases_lt k (suc n)) lt le })
    next (inr h) (inr b) = inr (λ m le. none_at h b m (cases_lt m (suc n)) le)

rows_are : (base s : ℕ) (cs : Changes) (kept : Kept) (content : Key → Option (List ℕ)) (key : Key) (row : Option (List ℕ)) → base ≤ s
    → AreVersionsOf base cs kept → IsRowAt kept key s (content key) row → row ≡ rows_after content (take (s - base) cs) key
rows_are base s cs kept content key row le are is = by (newest_or_none kept key s)
  where
    there : base + (s - base) ≡ s
    there = omega (arith, le)

    by : ((m : ℕ) × (v : Version) × IsNewest kept key s m v) ⊎ ((m : ℕ) → m ≤ s → version_at kept key m ≡ None) → row ≡ rows_after content (take (s - base) cs) key
    by (inl h) = is.newest h.0 h.1 h.2 ∙ sym (made base cs kept key are content (s - base) h.0 h.1 (subst (λ n. IsNewest kept key n h.0 h.1) (sym there) h.2))
    by (inr none) = is.none none ∙ sym (unmade base cs kept key are content (s - base) (λ m within. none m (omega (arith, within, le))))

-- ---- the rows of an order

-- the rows after items depend on no other row
rows_alike : (f g : Key → Option (List ℕ)) (cs : Changes) (key : Key) → f key ≡ g key → rows_after f cs key ≡ rows_after g cs key
rows_alike f g [] key e = e
rows_alike f g (ws ∷ cs) key e = rows_alike (content_after f ws) (content_after g ws) cs key (ap (λ row. overwritten row (latest (λ (write : Write). key_eq write.key key) ws)) e)

-- more judged items
rows_of_effects : (h js : List Judged) (key : Key) → rows_after (row_in (effects h)) (map effect_of js) key ≡ row_in (effects (h ++ js)) key
rows_of_effects h [] key = ap (λ (js : List Judged). row_in (effects js) key) (sym (append-nil h))
rows_of_effects h (j ∷ js) key =
    rows_alike (content_after (row_in (effects h)) (effect_of j)) (row_in (effects (h ++ j ∷ []))) (map effect_of js) key (sym (ap (λ ws. row_in ws key) (effects_push h j) ∙ row_in-append (effects h) (effect_of j) key))
    ∙ rows_of_effects (h ++ j ∷ []) js key ∙ ap (λ (es : List Judged). row_in (effects es) key) (append_assoc h (j ∷ []) js)

rows_of_order : (p : Setting) (L : Order) (base s : ℕ) (key : Key) → base ≤ s → rows_after (rows p (take base L)) (take (s - base) (changes_of p L base)) key ≡ read p L key s
rows_of_order p L base s key le =
    let h = history p L in
    let there : base + (s - base) ≡ s = omega (arith, le) in
    let items : history p (take base L) ++ take (s - base) (drop base h) ≡ history p (take s L) =
    ap (λ (g : List Judged). g ++ take (s - base) (drop base h)) (sym (take_history p L base)) ∙ sym (take-add base (s - base) h) ∙ ap (λ n. take n h) there ∙ take_history p L s in
    ap (λ (cs : Changes). rows_after (rows p (take base L)) cs key) (take-map effect_of (s - base) (drop base h))
    ∙ rows_of_effects (history p (take base L)) (take (s - base) (drop base h)) key ∙ ap (λ (g : List Judged). row_in (effects g) key) items

next_content : (b : Bool) (content : Key → Option (List ℕ)) (writes : List Write) (key : Key) → (if b then content_after content writes else content) key ≡ rows_after content ((if b then writes else []) ∷ []) key
next_content true content writes key = refl
next_content false content writes key = refl

pub follow : VersionsFollowTheItems
follow = record {
  none = none_is;
  added = added_is;
  passed = passed_is;
  taken_back = taken_back_is;
  pruned = pruned_is;
  answers = answers_are;
  row = rows_are;
  order = rows_of_order;
  next = λ p S i key. next_content (is_commit (judge p S.position S.kept i)) S.content (writes_of i) key;
}
