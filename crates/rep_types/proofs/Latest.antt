-- Lemmas on `latest`, the last element of a list that passes a test.
use Rattle.std.proofs.Common.{◌≡◌, ℕ, ◌+◌, ◌<◌, Bool, if◌then◌else◌, List, [], ◌∷◌, ◌++◌, length, take, get_or, Some, arith}
use Rattle.std.specs.Option.{option_or}
use Rattle.std.proofs.lemmas.List.{take_more, take_all}
use Rattle.rep_types.specs.Order.{latest}

-- the last one of a joined list is that of the second part, or else that of the first
pub latest-append : {A : Type 0} (test : A → Bool) (xs ys : List A) → latest test (xs ++ ys) ≡ option_or (latest test ys) (latest test xs)
latest-append test [] ys = grind arith
latest-append test (x ∷ xs) ys = grind (arith, latest-append test xs ys)

-- one more element at the end: it, if it passes, or else the last one before it
pub latest_push : {A : Type 0} (test : A → Bool) (xs : List A) (x : A) → latest test (xs ++ x ∷ []) ≡ (if test x then Some x else latest test xs)
latest_push test xs x = grind (arith, latest-append test xs (x ∷ []))

-- one step of a loop over the list, which has read x at i
pub latest_more : {A : Type 0} (test : A → Bool) (xs : List A) (i : ℕ) (x : A) → x ≡ get_or xs i x → i < length xs →
    latest test (take (i + 1) xs) ≡ (if test x then Some x else latest test (take i xs))
latest_more test xs i x e h = grind (arith, take_more xs i x h, latest_push test (take i xs) x)

-- after the loop: the first elements, as many as there are, are all of the list
pub latest_all : {A : Type 0} (test : A → Bool) (xs : List A) → latest test (take (length xs) xs) ≡ latest test xs
latest_all test xs = grind (arith, take_all (length xs) xs)
