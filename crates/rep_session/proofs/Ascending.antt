-- Lists that ascend by the keys of their elements, and one more among them.
use Rattle.std.proofs.Common.{◌≡◌, ℕ, ◌+◌, ◌<◌, Bool, true, false, cond, List, [], ◌∷◌, ◌++◌, length, map, filter, take, drop, None, Some, refl, sym, ap, ◌∙◌, subst, arith, length-append}
use Rattle.std.specs.Prelude.{count_by}
use Rattle.std.specs.List.{AllByRecursion, list_any, insert}
use Rattle.std.proofs.Math.ListN.{set}
use Rattle.std.proofs.Math.Seq.{take-append_seam, drop-append_seam, set-append_seam}
use Rattle.std.proofs.lemmas.List.Sums.{length-filter}
use Rattle.rep_types.specs.declared.key.Key.{Key}
use Rattle.rep_types.specs.declared.value.Write.{Write}
use Rattle.rep_types.specs.Keys.{key_eq, key_lt, disorder, disorder_after}
use Rattle.rep_types.specs.Transactions.{key_of}
use Rattle.rep_types.proofs.Lists.{all_filter}
use Rattle.rep_session.specs.Sessions.{placed, itself}
use Rattle.rep_session.proofs.Keys.{lt_trans, lt_not_gt, lt_not_eq, gt_not_eq, eq_not_gt, between, same_key}

-- the keys as themselves
pub map_itself : (keys : List Key) → map itself keys ≡ keys
map_itself [] = refl
map_itself (key ∷ keys) = ap (λ ks. key ∷ ks) (map_itself keys)

-- where no element passes, none is kept
pub filter_none : {A : Type 0} (p : A → Bool) (xs : List A) → list_any p xs ≡ false → filter p xs ≡ []
filter_none p [] h = refl
filter_none p (x ∷ xs) h = grind (arith, filter_none p xs)

-- what is kept passes
kept_pass_first : {A : Type 0} (p : A → Bool) (x : A) (xs : List A) (b : Bool) → p x ≡ b → AllByRecursion (λ y. p y ≡ true) xs →
    AllByRecursion (λ y. p y ≡ true) (cond b (x ∷ xs) xs)
kept_pass_first p x xs true e rest = (e, rest)
kept_pass_first p x xs false e rest = rest

pub kept_pass : {A : Type 0} (p : A → Bool) (xs : List A) → AllByRecursion (λ y. p y ≡ true) (filter p xs)
kept_pass p [] = tt
kept_pass p (x ∷ xs) = kept_pass_first p x (filter p xs) (p x) refl (kept_pass p xs)

module _ {A : Type 0} (f : A → Key) where
  -- each key is below all behind it
  abbrev pub Ascend : List A → Type 0
  Ascend [] = Unit {0}
  Ascend (x ∷ xs) = AllByRecursion (λ y. key_lt (f x) (f y) ≡ true) xs × Ascend xs

  -- keys below another are below all that it is below
  pub below_all : (a b : Key) (xs : List A) → key_lt a b ≡ true → AllByRecursion (λ y. key_lt b (f y) ≡ true) xs → AllByRecursion (λ y. key_lt a (f y) ≡ true) xs
  below_all a b [] h all = tt
  below_all a b (x ∷ xs) h all = (lt_trans a b (f x) h all.0, below_all a b xs h all.1)

  -- the list ascends by the test of a write set's lists, and so by this one
  ascend_first : (i : ℕ) (before : Key) (x : A) (xs : List A) (b : Bool) → key_lt before (f x) ≡ b →
      cond b (disorder_after (i + 1) (f x) (map f xs)) (Some i) ≡ None →
      (disorder_after (i + 1) (f x) (map f xs) ≡ None → AllByRecursion (λ y. key_lt (f x) (f y) ≡ true) xs × Ascend xs) →
      AllByRecursion (λ y. key_lt before (f y) ≡ true) (x ∷ xs) × Ascend (x ∷ xs)
  ascend_first i before x xs true e h rest =
      let r : AllByRecursion (λ y. key_lt (f x) (f y) ≡ true) xs × Ascend xs = rest h in
      ((e, below_all before (f x) xs e r.0), (r.0, r.1))
  ascend_first i before x xs false e h rest = absurd cc

  ascend_after : (i : ℕ) (before : Key) (xs : List A) → disorder_after i before (map f xs) ≡ None →
      AllByRecursion (λ y. key_lt before (f y) ≡ true) xs × Ascend xs
  ascend_after i before [] h = (tt, tt)
  ascend_after i before (x ∷ xs) h = ascend_first i before x xs (key_lt before (f x)) refl h (λ h. ascend_after (i + 1) (f x) xs h)

  pub ascend_from : (xs : List A) → disorder (map f xs) ≡ None → Ascend xs
  ascend_from [] h = tt
  ascend_from (x ∷ xs) h = ascend_after 1 (f x) xs h

  disorder_later : (i : ℕ) (before : Key) (xs : List A) → AllByRecursion (λ y. key_lt before (f y) ≡ true) xs → Ascend xs → disorder_after i before (map f xs) ≡ None
  disorder_later i before [] all h = refl
  disorder_later i before (x ∷ xs) all h = rw all.0 (disorder_later (i + 1) (f x) xs h.0 h.1)

  pub order_from : (xs : List A) → Ascend xs → disorder (map f xs) ≡ None
  order_from [] h = refl
  order_from (x ∷ xs) h = disorder_later 1 (f x) xs h.0 h.1

  -- what is kept of an ascending list ascends
  ascend_kept_first : (p : A → Bool) (x : A) (xs : List A) (b : Bool) → AllByRecursion (λ y. key_lt (f x) (f y) ≡ true) xs → Ascend xs → Ascend (cond b (x ∷ xs) xs)
  ascend_kept_first p x xs true all h = (all, h)
  ascend_kept_first p x xs false all h = h

  pub ascend_kept : (p : A → Bool) (xs : List A) → Ascend xs → Ascend (filter p xs)
  ascend_kept p [] h = tt
  ascend_kept p (x ∷ xs) h = ascend_kept_first p x (filter p xs) (p x) (all_filter (λ y. key_lt (f x) (f y) ≡ true) p xs h.0) (ascend_kept p xs h.1)

  -- two ascending lists with an element between them
  above_joined : (k : Key) (xs : List A) (w : A) (ys : List A) → AllByRecursion (λ y. key_lt k (f y) ≡ true) xs → key_lt k (f w) ≡ true →
      AllByRecursion (λ y. key_lt (f w) (f y) ≡ true) ys → AllByRecursion (λ y. key_lt k (f y) ≡ true) (xs ++ w ∷ ys)
  above_joined k [] w ys all here rest = (here, below_all k (f w) ys here rest)
  above_joined k (x ∷ xs) w ys all here rest = (all.0, above_joined k xs w ys all.1 here rest)

  ascend_joined : (xs : List A) (w : A) (ys : List A) → Ascend xs → AllByRecursion (λ y. key_lt (f y) (f w) ≡ true) xs →
      Ascend ys → AllByRecursion (λ y. key_lt (f w) (f y) ≡ true) ys → Ascend (xs ++ w ∷ ys)
  ascend_joined [] w ys h below g above = (above, g)
  ascend_joined (x ∷ xs) w ys h below g above = (above_joined (f x) xs w ys h.0 below.0 above, ascend_joined xs w ys h.1 below.1 g above)

  pub placed_ascends : (w : A) (xs : List A) → Ascend xs → Ascend (placed f w xs)
  placed_ascends w xs h =
      ascend_joined (filter (λ y. key_lt (f y) (f w)) xs) w (filter (λ y. key_lt (f w) (f y)) xs)
      (ascend_kept (λ y. key_lt (f y) (f w)) xs h) (kept_pass (λ y. key_lt (f y) (f w)) xs)
      (ascend_kept (λ y. key_lt (f w) (f y)) xs h) (kept_pass (λ y. key_lt (f w) (f y)) xs)

  -- of elements above the key, none is below it, none is of it
  all_above : (key : Key) (xs : List A) → AllByRecursion (λ y. key_lt key (f y) ≡ true) xs →
      (filter (λ y. key_lt (f y) key) xs ≡ []) × (filter (λ y. key_eq (f y) key) xs ≡ []) × (filter (λ y. key_lt key (f y)) xs ≡ xs)
  all_above key [] all = (refl, refl, refl)
  all_above key (x ∷ xs) all =
      let r = all_above key xs all.1 in
      (rw (lt_not_gt key (f x) all.0) r.0, rw (gt_not_eq key (f x) all.0) r.1, rw all.0 (ap (λ ys. x ∷ ys) r.2))

  parts_first : (key : Key) (x : A) (xs : List A) (below same : Bool) → key_lt (f x) key ≡ below → key_eq (f x) key ≡ same → Ascend (x ∷ xs) →
      xs ≡ filter (λ y. key_lt (f y) key) xs ++ (filter (λ y. key_eq (f y) key) xs ++ filter (λ y. key_lt key (f y)) xs) →
      x ∷ xs ≡ filter (λ y. key_lt (f y) key) (x ∷ xs) ++ (filter (λ y. key_eq (f y) key) (x ∷ xs) ++ filter (λ y. key_lt key (f y)) (x ∷ xs))
  parts_first key x xs true same b s h rest = rw (b, lt_not_eq (f x) key b, lt_not_gt (f x) key b) (ap (λ ys. x ∷ ys) rest)
  parts_first key x xs false true b s h rest =
      let r = all_above key xs (subst (λ k. AllByRecursion (λ y. key_lt k (f y) ≡ true) xs) (same_key (f x) key s) h.0) in
      rw (b, s, eq_not_gt (f x) key s, r.0, r.1, r.2) refl
  parts_first key x xs false false b s h rest =
      let above : key_lt key (f x) ≡ true = between (f x) key b s in
      let r = all_above key xs (below_all key (f x) xs above h.0) in
      rw (b, s, above, r.0, r.1, r.2) refl

  one_first : (key : Key) (x : A) (xs : List A) (same : Bool) → key_eq (f x) key ≡ same → Ascend (x ∷ xs) →
      list_any (λ y. key_eq (f y) key) (x ∷ xs) ≡ true →
      (list_any (λ y. key_eq (f y) key) xs ≡ true → (z : A) × (filter (λ y. key_eq (f y) key) xs ≡ z ∷ [])) →
      (z : A) × (filter (λ y. key_eq (f y) key) (x ∷ xs) ≡ z ∷ [])
  one_first key x xs true s h some rest =
      let r = all_above key xs (subst (λ k. AllByRecursion (λ y. key_lt k (f y) ≡ true) xs) (same_key (f x) key s) h.0) in
      (x, rw (s, r.1) refl)
  one_first key x xs false s h some rest =
      let found = rest (rw s at some) in
      (found.0, rw s found.1)

  -- what an ascending list is, by a key: those below it, those of it, those above it
  pub parts : (key : Key) (xs : List A) → Ascend xs →
      xs ≡ filter (λ y. key_lt (f y) key) xs ++ (filter (λ y. key_eq (f y) key) xs ++ filter (λ y. key_lt key (f y)) xs)
  parts key [] h = refl
  parts key (x ∷ xs) h = parts_first key x xs (key_lt (f x) key) (key_eq (f x) key) refl refl h (parts key xs h.1)

  -- one element of the key, where there are some
  pub one_of : (key : Key) (xs : List A) → Ascend xs → list_any (λ y. key_eq (f y) key) xs ≡ true →
      (x : A) × (filter (λ y. key_eq (f y) key) xs ≡ x ∷ [])
  one_of key [] h some = absurd cc
  one_of key (x ∷ xs) h some = one_first key x xs (key_eq (f x) key) refl h some (one_of key xs h.1)

  -- the first elements, as many as are below the key, and those behind them
  front : (key : Key) (xs : List A) → Ascend xs → take (count_by (λ y. key_lt (f y) key) xs) xs ≡ filter (λ y. key_lt (f y) key) xs
  front key xs h =
      let below : List A = filter (λ y. key_lt (f y) key) xs in
      let rest : List A = filter (λ y. key_eq (f y) key) xs ++ filter (λ y. key_lt key (f y)) xs in
      ap (λ n. take n xs) (sym (length-filter (λ y. key_lt (f y) key) xs))
      ∙ ap (take (length below)) (parts key xs h) ∙ take-append_seam below rest

  back : (key : Key) (xs : List A) → Ascend xs → drop (count_by (λ y. key_lt (f y) key) xs) xs ≡ filter (λ y. key_eq (f y) key) xs ++ filter (λ y. key_lt key (f y)) xs
  back key xs h =
      let below : List A = filter (λ y. key_lt (f y) key) xs in
      let rest : List A = filter (λ y. key_eq (f y) key) xs ++ filter (λ y. key_lt key (f y)) xs in
      ap (λ n. drop n xs) (sym (length-filter (λ y. key_lt (f y) key) xs))
      ∙ ap (drop (length below)) (parts key xs h) ∙ drop-append_seam below rest

  -- where no element is of its key, an element is placed by putting it behind those below it
  pub inserted : (w : A) (xs : List A) → Ascend xs → list_any (λ y. key_eq (f y) (f w)) xs ≡ false →
      insert xs (count_by (λ y. key_lt (f y) (f w)) xs) w ≡ placed f w xs
  inserted w xs h none =
      rw (front (f w) xs h, back (f w) xs h, filter_none (λ y. key_eq (f y) (f w)) xs none) refl

  -- where one is, it is placed by putting it there
  pub replaced : (w : A) (xs : List A) → Ascend xs → list_any (λ y. key_eq (f y) (f w)) xs ≡ true →
      set xs (count_by (λ y. key_lt (f y) (f w)) xs) w ≡ placed f w xs
  replaced w xs h some =
      let below : List A = filter (λ y. key_lt (f y) (f w)) xs in
      let above : List A = filter (λ y. key_lt (f w) (f y)) xs in
      let one = one_of (f w) xs h some in
      let whole : xs ≡ below ++ one.0 ∷ above = parts (f w) xs h ∙ ap (λ same. below ++ (same ++ above)) one.1 in
      ap (λ n. set xs n w) (sym (length-filter (λ y. key_lt (f y) (f w)) xs))
      ∙ ap (λ ys. set ys (length below) w) whole ∙ set-append_seam below one.0 above w

  -- and that place is there
  pub place_within : (key : Key) (xs : List A) → Ascend xs → list_any (λ y. key_eq (f y) key) xs ≡ true → count_by (λ y. key_lt (f y) key) xs < length xs
  place_within key xs h some =
      let one = one_of key xs h some in
      let whole : xs ≡ filter (λ y. key_lt (f y) key) xs ++ one.0 ∷ filter (λ y. key_lt key (f y)) xs =
      parts key xs h ∙ ap (λ same. filter (λ y. key_lt (f y) key) xs ++ (same ++ filter (λ y. key_lt key (f y)) xs)) one.1 in
      omega (arith, ap length whole, length-append (filter (λ y. key_lt (f y) key) xs) (one.0 ∷ filter (λ y. key_lt key (f y)) xs), length-filter (λ y. key_lt (f y) key) xs)

-- ---- keys by themselves

own_order : (keys : List Key) → disorder keys ≡ None → Ascend itself keys
own_order keys h = ascend_from itself keys (ap disorder (map_itself keys) ∙ h)

pub keys_ascend : (key : Key) (keys : List Key) → disorder keys ≡ None → disorder (placed itself key keys) ≡ None
keys_ascend key keys h =
    ap disorder (sym (map_itself (placed itself key keys))) ∙ order_from itself (placed itself key keys) (placed_ascends itself key keys (own_order keys h))

pub key_inserted : (key : Key) (keys : List Key) → disorder keys ≡ None → list_any (λ (other : Key). key_eq other key) keys ≡ false →
    insert keys (count_by (λ (other : Key). key_lt other key) keys) key ≡ placed itself key keys
key_inserted key keys h none = inserted itself key keys (own_order keys h) none

-- a key that is there already stands in its own place
pub key_there : (key : Key) (keys : List Key) → disorder keys ≡ None → list_any (λ (other : Key). key_eq other key) keys ≡ true → keys ≡ placed itself key keys
key_there key keys h some =
    let ascend : Ascend itself keys = own_order keys h in
    let one = one_of itself key keys ascend some in
    let pass : AllByRecursion (λ (y : Key). key_eq y key ≡ true) (one.0 ∷ []) = subst (AllByRecursion (λ (y : Key). key_eq y key ≡ true)) one.1 (kept_pass (λ (y : Key). key_eq y key) keys) in
    let below : List Key = filter (λ (y : Key). key_lt y key) keys in
    let above : List Key = filter (λ (y : Key). key_lt key y) keys in
    parts itself key keys ascend ∙ ap (λ same. below ++ (same ++ above)) one.1 ∙ ap (λ k. below ++ k ∷ above) (same_key one.0 key pass.0)

-- ---- writes by their keys

pub writes_ascend : (write : Write) (writes : List Write) → disorder (map key_of writes) ≡ None → disorder (map key_of (placed key_of write writes)) ≡ None
writes_ascend write writes h = order_from key_of (placed key_of write writes) (placed_ascends key_of write writes (ascend_from key_of writes h))

pub write_inserted : (write : Write) (writes : List Write) → disorder (map key_of writes) ≡ None →
    list_any (λ (other : Write). key_eq other.key write.key) writes ≡ false →
    insert writes (count_by (λ (other : Write). key_lt other.key write.key) writes) write ≡ placed key_of write writes
write_inserted write writes h none = inserted key_of write writes (ascend_from key_of writes h) none

pub write_replaced : (write : Write) (writes : List Write) → disorder (map key_of writes) ≡ None →
    list_any (λ (other : Write). key_eq other.key write.key) writes ≡ true →
    set writes (count_by (λ (other : Write). key_lt other.key write.key) writes) write ≡ placed key_of write writes
write_replaced write writes h some = replaced key_of write writes (ascend_from key_of writes h) some

pub write_within : (key : Key) (writes : List Write) → disorder (map key_of writes) ≡ None →
    list_any (λ (other : Write). key_eq other.key key) writes ≡ true → count_by (λ (other : Write). key_lt other.key key) writes < length writes
write_within key writes h some = place_within key_of key writes (ascend_from key_of writes h) some
