-- The greatest of some numbers.
use Rattle.std.proofs.Common.{◌≡◌, ℕ, ◌+◌, ◌<◌, ◌≤◌, Bool, true, false, ◌||◌, if◌then◌else◌, List, [], ◌∷◌, ◌++◌, length, map, filter, fold, max, take, get_or, Contains, Option, None, Some, refl, sym, ap, subst, ◌∙◌, ⊎_elim, arith}
use Rattle.std.specs.List.{list_any}
use Rattle.std.specs.Option.{option_cmp}
use Rattle.std.specs.Ordering.{nat_cmp, ord_max}
use Rattle.std.proofs.lemmas.Bool.{cases_lt}
use Rattle.std.proofs.lemmas.Bool.Decides.{nat_tests}
use Rattle.std.proofs.lemmas.List.{map-append, take_more}
use Rattle.std.proofs.lemmas.List.Elements.{filter-append}
use Rattle.rep_types.specs.Transactions.{Transaction}
use Rattle.rep_types.specs.Entries.{Entry}
use Rattle.rep_types.specs.Order.{against, greatest, seqnos_against}
use Rattle.rep_types.proofs.Members.{Contains-first, Contains-behind, Contains-cons_cases, Contains-nothing}

-- the greater of two numbers, of which either may be missing
abbrev pub greater : Option ℕ → Option ℕ → Option ℕ
greater None o = o
greater (Some a) None = Some a
greater (Some a) (Some b) = Some (max a b)

-- it is what std's `max` gives of them
pub max_is_greater : (a b : Option ℕ) → ord_max (option_cmp nat_cmp) a b ≡ greater a b
max_is_greater None None = refl
max_is_greater None (Some b) = refl
max_is_greater (Some a) None = refl
max_is_greater (Some a) (Some b) = grind (arith, nat_tests)

pub greater_none : (a : Option ℕ) → greater a None ≡ a
greater_none None = refl
greater_none (Some a) = refl

pub greater_assoc : (a b c : Option ℕ) → greater (greater a b) c ≡ greater a (greater b c)
greater_assoc None b c = refl
greater_assoc (Some x) None c = refl
greater_assoc (Some x) (Some y) None = refl
greater_assoc (Some x) (Some y) (Some z) = ap Some (omega arith)

-- the greatest of a number and of others, from the front
fold_max : (a b : ℕ) (ns : List ℕ) → fold max (max a b) ns ≡ max a (fold max b ns)
fold_max a b [] = refl
fold_max a b (n ∷ ns) =
    let same : max (max a b) n ≡ max a (max b n) = omega arith in
    ap (λ (m : ℕ). fold max m ns) same ∙ fold_max a (max b n) ns

-- one more number in front
pub greatest_cons : (n : ℕ) (ns : List ℕ) → greatest (n ∷ ns) ≡ greater (Some n) (greatest ns)
greatest_cons n [] = refl
greatest_cons n (m ∷ ns) = ap Some (fold_max n m ns)

-- the greatest of two lists is the greater of theirs
pub greatest-append : (xs ys : List ℕ) → greatest (xs ++ ys) ≡ greater (greatest xs) (greatest ys)
greatest-append [] ys = refl
greatest-append (x ∷ xs) ys =
    greatest_cons x (xs ++ ys)
    ∙ (ap (greater (Some x)) (greatest-append xs ys)
    ∙ (sym (greater_assoc (Some x) (greatest xs) (greatest ys)) ∙ ap (λ (o : Option ℕ). greater o (greatest ys)) (sym (greatest_cons x xs))))

-- the greatest is one of the numbers, and none is above it; where there is none, there is no number
abbrev pub IsGreatest : List ℕ → Option ℕ → Type 0
IsGreatest ns None = (n : ℕ) → Contains ns n → ⊥
IsGreatest ns (Some m) = Contains ns m × ((n : ℕ) → Contains ns n → n ≤ m)

-- the greater of a number and of the greatest of others, which comes to n or to m
pick : (n m k : ℕ) (ns : List ℕ) → k ≡ max n m → Contains ns m → Contains (n ∷ ns) k
pick n m k ns is has = ⊎_elim below above (cases_lt n m)
  where
    below : n < m → Contains (n ∷ ns) k
    below lt = let same : m ≡ k = omega arith in subst (Contains (n ∷ ns)) same (Contains-behind n m ns has)

    above : m ≤ n → Contains (n ∷ ns) k
    above le = let same : n ≡ k = omega arith in Contains-first n k ns same

-- one more number in front of those of which this is the greatest
IsGreatest-cons : (n : ℕ) (ns : List ℕ) (o : Option ℕ) → IsGreatest ns o → IsGreatest (n ∷ ns) (greater (Some n) o)
IsGreatest-cons n ns None none =
    (Contains-first n n ns refl, λ k has. ⊎_elim (λ same. omega (arith, same)) (λ rest. absurd (none k rest)) (Contains-cons_cases n k ns has))
IsGreatest-cons n ns (Some m) (has, most) =
    (pick n m (max n m) ns refl has, λ k member. ⊎_elim (λ same. omega (arith, same)) (λ rest. omega (arith, most k rest)) (Contains-cons_cases n k ns member))

-- `greatest` is the greatest, as those words say
pub IsGreatest-greatest : (ns : List ℕ) → IsGreatest ns (greatest ns)
IsGreatest-greatest [] = λ n has. Contains-nothing n has
IsGreatest-greatest (n ∷ ns) = subst (IsGreatest (n ∷ ns)) (sym (greatest_cons n ns)) (IsGreatest-cons n ns (greatest ns) (IsGreatest-greatest ns))

-- the greatest seqno against w of two lists of entries
pub greatest_against-append : (w : Transaction) (es fs : List Entry) →
    greatest (seqnos_against w (es ++ fs)) ≡ greater (greatest (seqnos_against w es)) (greatest (seqnos_against w fs))
greatest_against-append w es fs =
    let parts : seqnos_against w (es ++ fs) ≡ seqnos_against w es ++ seqnos_against w fs = simp (filter-append, map-append) in
    ap greatest parts ∙ greatest-append (seqnos_against w es) (seqnos_against w fs)

-- one more entry
pub greatest_against_push : (w : Transaction) (es : List Entry) (e : Entry) →
    greatest (seqnos_against w (es ++ e ∷ [])) ≡ (if against w e then greater (greatest (seqnos_against w es)) (Some e.seqno) else greatest (seqnos_against w es))
greatest_against_push w es e = greatest_against-append w es (e ∷ []) ∙ by_test (against w e)
  where
    by_test : (b : Bool) → greater (greatest (seqnos_against w es)) (greatest (map (λ (f : Entry). f.seqno) (if b then e ∷ [] else [])))
        ≡ (if b then greater (greatest (seqnos_against w es)) (Some e.seqno) else greatest (seqnos_against w es))
    by_test true = refl
    by_test false = greater_none (greatest (seqnos_against w es))

-- one step of a loop over entries, which has read e at i
pub greatest_against_more : (w : Transaction) (es : List Entry) (i : ℕ) (e : Entry) → e ≡ get_or es i e → i < length es →
    greatest (seqnos_against w (take (i + 1) es)) ≡
    (if against w e then greater (greatest (seqnos_against w (take i es))) (Some e.seqno) else greatest (seqnos_against w (take i es)))
greatest_against_more w es i e read within =
    ap (λ (fs : List Entry). greatest (seqnos_against w fs)) (take_more es i e within ∙ ap (λ (f : Entry). take i es ++ f ∷ []) (sym read))
    ∙ greatest_against_push w (take i es) e

-- one entry in front of those that stand against w
none_in : (b : Bool) (e : Entry) (es : List Entry) (found : Bool) → (greatest (map (λ (f : Entry). f.seqno) es) ≡ None → found ≡ false) →
    greatest (map (λ (f : Entry). f.seqno) (if b then e ∷ es else es)) ≡ None → (b || found) ≡ false
none_in true e es found rest none = absurd cc
none_in false e es found rest none = rest none

-- where no seqno stands against w, no entry does
pub none_against : (w : Transaction) (es : List Entry) → greatest (seqnos_against w es) ≡ None → list_any (against w) es ≡ false
none_against w [] none = refl
none_against w (e ∷ es) none = none_in (against w e) e (filter (against w) es) (list_any (against w) es) (none_against w es) none
