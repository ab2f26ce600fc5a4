-- What rows keep, read off the rows.
use Rattle.std.proofs.Common.{◌≡◌, ◌∙◌, refl, sym, ap, subst, ℕ, Bool, true, false, cond, not, ◌&&◌, ◌==◌, List, [], ◌∷◌, ◌++◌, Option, Some, None, arith}
use Rattle.std.specs.Cmp.{IsEquivalence}
use Rattle.std.specs.List.{filter, IsDistinct}
use Rattle.std.specs.Map.{lookup, keys_of}
use Rattle.std.specs.Map.Calls.{RetainsPairs}
use Rattle.std.specs.BTreeMap.{is_at}
use Rattle.std.specs.Ordering.{nat_cmp}
use Rattle.std.specs.Option.{option_or}
use Rattle.std.specs.FinMap as fin
use Rattle.std.proofs.lemmas.Bool.Decides.{nat_tests}
use Rattle.std.proofs.lemmas.Map.{lookup-none}
use Rattle.std.proofs.lemmas.Map.Entries.{none_past_head, lookup-filter-keys}
use Rattle.std.proofs.lemmas.Map.Keys.{IsDistinct-tail}
use Rattle.rep_types.specs.declared.key.Key.{Key}
use Rattle.rep_types.specs.Keys.{key_eq}
use Rattle.rep_versions.specs.declared.versions.VersionKey.{VersionKey}
use Rattle.rep_versions.specs.Versions.{version_cmp, version_at, Version, IsNewest}
use Rattle.rep_versions.specs.Rows.{RowVersions, made_at, IsNewestOf, named, all_named, kept_of}
use Rattle.rep_versions.proofs.Places.{Stored, found_at, get_version, one_put, one_gone, same_kept}

-- the rows, each under its key
abbrev pub Rows : Type 0
Rows = List (Key × RowVersions)

-- no two rows have one key
abbrev pub AreApart : Rows → Type 0
AreApart rows = IsDistinct key_eq (keys_of rows)

-- the version of a row at a seqno, if there is such a row
abbrev pub row_at : Option RowVersions → ℕ → Option Version
row_at None s = None
row_at (Some row) s = made_at row s

abbrev pub version : Key → ℕ → VersionKey
version key s = record { key = key; seqno = s }

pub one_key : (a b : Key) → key_eq a b ≡ true → a ≡ b
one_key a b h =
    let table : a.table ≡ b.table = grind (arith, nat_tests, h) in
    let row : a.row ≡ b.row = grind (arith, nat_tests, h) in
    ap (λ t. record { table = t; row = a.row }) table ∙ ap (λ r. record { table = b.table; row = r }) row

pub keys_alike : IsEquivalence key_eq
keys_alike = record {
  refl = λ a. grind (arith, nat_tests);
  symm = λ a b. grind (arith, nat_tests);
  congr = λ a b c h. ap (λ k. key_eq k c) (one_key a b h);
}

-- ---- look-ups

pub found_append : (xs ys : List Stored) (q : VersionKey) → found_at (xs ++ ys) q ≡ option_or (found_at xs q) (found_at ys q)
found_append [] ys q = refl
found_append (x ∷ xs) ys q = step (is_at (version_cmp q) x.0) (found_append xs ys q)
  where
    step : (b : Bool) → found_at (xs ++ ys) q ≡ option_or (found_at xs q) (found_at ys q) → cond b (Some x.1) (found_at (xs ++ ys) q) ≡ option_or (cond b (Some x.1) (found_at xs q)) (found_at ys q)
    step true h = refl
    step false h = h

tie : (key k : Key) (s t : ℕ) → is_at (version_cmp (version key s)) (version k t) ≡ (key_eq key k && is_at (nat_cmp s) t)
tie key k s t = grind (arith, nat_tests)

pub found_named : (k : Key) (row : RowVersions) (key : Key) (s : ℕ) → found_at (named k row) (version key s) ≡ cond (key_eq key k) (made_at row s) None
found_named k [] key s = none (key_eq key k)
  where
    none : (b : Bool) → ◌≡◌ {A = Option Version} None (cond b None None)
    none true = refl
    none false = refl
found_named k (v ∷ row) key s = ap (λ b. cond b (Some v.1) (found_at (named k row) (version key s))) (tie key k s v.0) ∙ step (key_eq key k) (is_at (nat_cmp s) v.0) _ _ (found_named k row key s)
  where
    step : (b a : Bool) (found made : Option Version) → found ≡ cond b made None → cond (b && a) (Some v.1) found ≡ cond b (cond a (Some v.1) made) None
    step true true found made h = refl
    step true false found made h = h
    step false a found made h = h

or_none : (o p : Option Version) → p ≡ None → option_or o p ≡ o
or_none None p h = h
or_none (Some x) p h = refl

pub found_in_rows : (rows : Rows) → AreApart rows → (key : Key) (s : ℕ) → found_at (all_named rows) (version key s) ≡ row_at (lookup (key_eq key) rows) s
found_in_rows [] apart key s = refl
found_in_rows (e ∷ rows) apart key s =
    found_append (named e.0 e.1) (all_named rows) (version key s) ∙ ap (λ o. option_or o (found_at (all_named rows) (version key s))) (found_named e.0 e.1 key s)
    ∙ step (key_eq key e.0) refl (found_in_rows rows (IsDistinct-tail key_eq e.0 (keys_of rows) apart) key s)
  where
    step : (b : Bool) → key_eq key e.0 ≡ b → found_at (all_named rows) (version key s) ≡ row_at (lookup (key_eq key) rows) s
        → option_or (cond b (made_at e.1 s) None) (found_at (all_named rows) (version key s)) ≡ row_at (cond b (Some e.1) (lookup (key_eq key) rows)) s
    step true is h = or_none (made_at e.1 s) _ (h ∙ ap (λ o. row_at o s) (lookup-none (key_eq key) rows (none_past_head keys_alike key e rows apart is)))
    step false is h = h

-- what rows keep of a version
pub version_of : (rows : Rows) → AreApart rows → (key : Key) (s : ℕ) → version_at (kept_of rows) key s ≡ row_at (lookup (key_eq key) rows) s
version_of rows apart key s = get_version (all_named rows) (version key s) ∙ found_in_rows rows apart key s

pub newest_of : (rows : Rows) → AreApart rows → (key : Key) (s : ℕ) (row : RowVersions) (v : ℕ × Version) → lookup (key_eq key) rows ≡ Some row → IsNewestOf row s v → IsNewest (kept_of rows) key s v.0 v.1
newest_of rows apart key s row v there newest = record {
  stands = version_of rows apart key v.0 ∙ ap (λ o. row_at o v.0) there ∙ newest.stands;
  within = newest.within;
  none_above = λ t lt le. version_of rows apart key t ∙ ap (λ o. row_at o t) there ∙ newest.none_above t lt le;
}

-- ---- a version that is put, or goes

at_version : (key k : Key) (s t : ℕ) → is_at (version_cmp (version key s)) (version k t) ≡ (key_eq key k && (t == s))
at_version key k s t = grind (arith, nat_tests)

-- the row of one key is another one, which differs at one seqno
changed : (rows more : Rows) (key : Key) (s : ℕ) (w : Option Version) (row : RowVersions) → AreApart rows → AreApart more
    → ((q : Key) → lookup (key_eq q) more ≡ cond (key_eq key q) (Some row) (lookup (key_eq q) rows))
    → ((t : ℕ) → made_at row t ≡ cond (t == s) w (row_at (lookup (key_eq key) rows) t))
    → (q : VersionKey) → found_at (all_named more) q ≡ cond (is_at (version_cmp (version key s)) q) w (found_at (all_named rows) q)
changed rows more key s w row apart apart' there made q =
    found_in_rows more apart' q.key q.seqno ∙ ap (λ o. row_at o q.seqno) (there q.key)
    ∙ by (key_eq key q.key) refl
    ∙ ap (λ b. cond b w (found_at (all_named rows) q)) (sym (at_version key q.key s q.seqno))
  where
    by : (b : Bool) → key_eq key q.key ≡ b → row_at (cond b (Some row) (lookup (key_eq q.key) rows)) q.seqno ≡ cond (b && (q.seqno == s)) w (found_at (all_named rows) q)
    by true is = made q.seqno ∙ ap (λ k. cond (q.seqno == s) w (row_at (lookup (key_eq k) rows) q.seqno)) (one_key key q.key is) ∙ ap (cond (q.seqno == s) w) (sym (found_in_rows rows apart q.key q.seqno))
    by false is = sym (found_in_rows rows apart q.key q.seqno)

pub put_of : (rows more : Rows) (key : Key) (s : ℕ) (v : Version) (row : RowVersions) → AreApart rows → AreApart more
    → ((q : Key) → lookup (key_eq q) more ≡ cond (key_eq key q) (Some row) (lookup (key_eq q) rows))
    → ((t : ℕ) → made_at row t ≡ cond (t == s) (Some v) (row_at (lookup (key_eq key) rows) t))
    → kept_of more ≡ fin.insert (kept_of rows) (version key s) v
put_of rows more key s v row apart apart' there made = one_put (all_named rows) (all_named more) (version key s) v (changed rows more key s (Some v) row apart apart' there made)

-- a row of one version
pub made_alone : (s t : ℕ) (v : Version) → made_at ((s, v) ∷ []) t ≡ cond (t == s) (Some v) None
made_alone s t v = ap (λ b. cond b (Some v) None) (grind (arith, nat_tests))

without : (row : RowVersions) (s t : ℕ) → made_at (filter (λ v. not (v.0 == s)) row) t ≡ cond (t == s) None (made_at row t)
without row s t = lookup-filter-keys (is_at (nat_cmp t)) (λ n. not (n == s)) (not (t == s)) (λ n h. grind (arith, nat_tests, h)) row ∙ turned (t == s) _
  where
    turned : (b : Bool) (o : Option Version) → cond (not b) o None ≡ cond b None o
    turned true o = refl
    turned false o = refl

pub gone_of : (rows more : Rows) (key : Key) (s : ℕ) (row : RowVersions) → AreApart rows → AreApart more → lookup (key_eq key) rows ≡ Some row
    → ((q : Key) → lookup (key_eq q) more ≡ cond (key_eq key q) (Some (filter (λ v. not (v.0 == s)) row)) (lookup (key_eq q) rows))
    → kept_of more ≡ fin.remove (kept_of rows) (version key s)
gone_of rows more key s row apart apart' was there =
    one_gone (all_named rows) (all_named more) (version key s)
    (changed rows more key s None (filter (λ v. not (v.0 == s)) row) apart apart' there (λ t. without row s t ∙ ap (λ o. cond (t == s) None (row_at o t)) (sym was)))

pub gone_already : (rows : Rows) (key : Key) (s : ℕ) → AreApart rows → lookup (key_eq key) rows ≡ None → kept_of rows ≡ fin.remove (kept_of rows) (version key s)
gone_already rows key s apart none = one_gone (all_named rows) (all_named rows) (version key s) (λ q. ap (λ o. o) (by q (key_eq key q.key) refl) ∙ ap (λ b. cond b None (found_at (all_named rows) q)) (sym (at_version key q.key s q.seqno)))
  where
    by : (q : VersionKey) (b : Bool) → key_eq key q.key ≡ b → found_at (all_named rows) q ≡ cond (b && (q.seqno == s)) None (found_at (all_named rows) q)
    by q false is = refl
    by q true is =
        let no : found_at (all_named rows) q ≡ None = found_in_rows rows apart q.key q.seqno ∙ ap (λ k. row_at (lookup (key_eq k) rows) q.seqno) (sym (one_key key q.key is)) ∙ ap (λ o. row_at o q.seqno) none in
        no ∙ same (q.seqno == s) _ no
      where
        same : (b : Bool) (o : Option Version) → o ≡ None → None ≡ cond b None o
        same true o h = refl
        same false o h = sym h

-- ---- the versions that stay

named_where : (p : ℕ → Bool) (key : Key) (row : RowVersions) → named key (filter (λ v. p v.0) row) ≡ filter (λ e. p e.0.seqno) (named key row)
named_where p key [] = refl
named_where p key (v ∷ row) = step (p v.0) (named_where p key row)
  where
    step : (b : Bool) → named key (filter (λ w. p w.0) row) ≡ filter (λ e. p e.0.seqno) (named key row)
        → named key (cond b (v ∷ filter (λ w. p w.0) row) (filter (λ w. p w.0) row)) ≡ cond b ((version key v.0, v.1) ∷ filter (λ e. p e.0.seqno) (named key row)) (filter (λ e. p e.0.seqno) (named key row))
    step true h = ap (λ es. (version key v.0, v.1) ∷ es) h
    step false h = h

where_append : (p : Stored → Bool) (xs ys : List Stored) → filter p (xs ++ ys) ≡ filter p xs ++ filter p ys
where_append p [] ys = refl
where_append p (x ∷ xs) ys = step (p x) (where_append p xs ys)
  where
    step : (b : Bool) → filter p (xs ++ ys) ≡ filter p xs ++ filter p ys → cond b (x ∷ filter p (xs ++ ys)) (filter p (xs ++ ys)) ≡ cond b (x ∷ filter p xs) (filter p xs) ++ filter p ys
    step true h = ap (λ es. x ∷ es) h
    step false h = h

-- what a call that keeps versions by their seqnos does with a row
abbrev pub KeepsBy : {F : Type 0} → (F → Key → RowVersions → Bool → RowVersions → F → Type 0) → (ℕ → Bool) → F → Type 0
KeepsBy {F} T p f = (key : Key) (row : RowVersions) (b : Bool) (w : RowVersions) (f' : F) → T f key row b w f' → (w ≡ filter (λ v. p v.0) row) × (b ≡ false → w ≡ []) × (f' ≡ f)

pub all_where : {F : Type 0} (T : F → Key → RowVersions → Bool → RowVersions → F → Type 0) (p : ℕ → Bool) (f : F) → KeepsBy T p f
    → (rows more : Rows) → RetainsPairs T f rows more → all_named more ≡ filter (λ e. p e.0.seqno) (all_named rows)
all_where T p f keeps [] more h = ap all_named h
all_where T p f keeps (e ∷ rows) more (b, w, f', rest, call, others, is) =
    let did = keeps e.0 e.1 b w f' call in
    let rest_is = all_where T p f keeps rows rest (subst (λ g. RetainsPairs T g rows rest) did.2 others) in
    ap all_named is ∙ with_row b did.1 ∙ ap (λ es. named e.0 es ++ all_named rest) did.0 ∙ ap (λ es. es ++ all_named rest) (named_where p e.0 e.1)
    ∙ ap (λ es. filter (λ x. p x.0.seqno) (named e.0 e.1) ++ es) rest_is ∙ sym (where_append (λ x. p x.0.seqno) (named e.0 e.1) (all_named rows))
  where
    with_row : (b : Bool) → (b ≡ false → w ≡ []) → all_named (cond b ((e.0, w) ∷ rest) rest) ≡ named e.0 w ++ all_named rest
    with_row true empty = refl
    with_row false empty = ap (λ es. named e.0 es ++ all_named rest) (sym (empty refl))

pub key_is : (key : Key) → key_eq key key ≡ true
key_is key = keys_alike.refl key

-- rows in another order keep the same
pub kept_alike : (rows more : Rows) → AreApart rows → AreApart more → ((q : Key) → lookup (key_eq q) more ≡ lookup (key_eq q) rows) → kept_of more ≡ kept_of rows
kept_alike rows more apart apart' same = same_kept (kept_of more) (kept_of rows) (λ key s. version_of more apart' key s ∙ ap (λ o. row_at o s) (same key) ∙ sym (version_of rows apart key s))
