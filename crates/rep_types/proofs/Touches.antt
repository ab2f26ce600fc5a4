-- Lemmas on keys that two lists share, and on what is against a write set.
use Rattle.std.proofs.Common.{◌≡◌, Bool, true, false, List, [], ◌∷◌, map, Contains, None, refl, ap, ◌∙◌, arith}
use Rattle.std.specs.List.{list_any, Any}
use Rattle.std.proofs.lemmas.Bool.{false_from_ne_true, both_ways}
use Rattle.std.proofs.lemmas.Bool.Decides.{nat_tests}
use Rattle.std.proofs.lemmas.List.Folds.{list_any_at, Any-from_list_any}
use Rattle.std.proofs.lemmas.Map.Views.{Contains-from_any}
use Rattle.rep_types.specs.declared.key.Key.{Key}
use Rattle.rep_types.specs.declared.value.Write.{Write}
use Rattle.rep_types.specs.Keys.{key_eq}
use Rattle.rep_types.specs.Transactions.{key_of}
use Rattle.rep_types.specs.Order.{touches, latest}

-- where no element passes, one that the list contains doesn't
pub list_any_contains : {A : Type 0} (test : A → Bool) (xs : List A) (x : A) → Contains xs x → list_any test xs ≡ false → test x ≡ false
list_any_contains test xs x (k, inside, is) none =
    false_from_ne_true (test x) (λ passes. both_ways (list_any test xs) none (list_any_at test xs k x inside (ap test is ∙ passes)))

-- among writes of such keys there is no last write of one of the others
pub latest_untouched : (writes : List Write) (others : List Key) (key : Key) → touches (map key_of writes) others ≡ false → Contains others key →
    latest (λ (write : Write). key_eq write.key key) writes ≡ None
latest_untouched [] others key apart has = refl
latest_untouched (write ∷ writes) others key apart has = grind (arith, list_any_contains (key_eq write.key) others key has, latest_untouched writes others key)

-- keys that pass the test are one key
pub key_eq-true : (a b : Key) → key_eq a b ≡ true → a ≡ b
key_eq-true a b h = grind (arith, nat_tests)

-- a key is itself
pub key_eq_refl : (a : Key) → key_eq a a ≡ true
key_eq_refl a = grind (arith, nat_tests)

-- where an element that the list contains passes, some element passes
pub list_any_found : {A : Type 0} (test : A → Bool) (xs : List A) (x : A) → Contains xs x → test x ≡ true → list_any test xs ≡ true
list_any_found test xs x (k, inside, is) passes = list_any_at test xs k x inside (ap test is ∙ passes)

-- lists with a key in common touch
pub touches_from_common : (keys others : List Key) → (key : Key) × Contains keys key × Contains others key → touches keys others ≡ true
touches_from_common keys others (key, has, have) =
    list_any_found (λ (k : Key). list_any (key_eq k) others) keys key has (list_any_found (key_eq key) others key have (key_eq_refl key))

-- lists that touch have a key in common
pub common_from_touches : (keys others : List Key) → touches keys others ≡ true → (key : Key) × Contains keys key × Contains others key
common_from_touches keys others touch =
    let found : Any (λ (k : Key). list_any (key_eq k) others ≡ true) keys = Any-from_list_any (λ (k : Key). list_any (key_eq k) others) keys touch in
    (found.1, (found.0, found.2, found.3), Contains-from_any key_eq-true found.1 others found.4)
