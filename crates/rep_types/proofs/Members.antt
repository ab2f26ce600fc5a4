-- What lists contain that were mapped or filtered.
use Rattle.std.proofs.Common.{◌≡◌, ℕ, zero, suc, ◌<◌, Bool, true, false, if◌then◌else◌, List, [], ◌∷◌, length, map, filter, Contains, get_or, refl, sym, ap, ◌∙◌, inl, inr, ⊎_elim, arith}
use Rattle.std.specs.Prelude.{◌⊎◌}

-- an element of a longer list, by its place: it is the first, or it is of the rest
Contains-cons_at : {X : Type 0} (x y : X) (xs : List X) (k : ℕ) → k < length (x ∷ xs) → get_or (x ∷ xs) k y ≡ y → (x ≡ y) ⊎ Contains xs y
Contains-cons_at x y xs zero inside is = inl is
Contains-cons_at x y xs (suc k) inside is = inr (k, omega (arith, inside), is)

-- an element of a longer list is the first, or is of the rest
pub Contains-cons_cases : {X : Type 0} (x y : X) (xs : List X) → Contains (x ∷ xs) y → (x ≡ y) ⊎ Contains xs y
Contains-cons_cases x y xs (k, inside, is) = Contains-cons_at x y xs k inside is

-- the first element
pub Contains-first : {X : Type 0} (x y : X) (xs : List X) → x ≡ y → Contains (x ∷ xs) y
Contains-first x y xs same = (zero, omega arith, same)

-- what the rest contains
pub Contains-behind : {X : Type 0} (x y : X) (xs : List X) → Contains xs y → Contains (x ∷ xs) y
Contains-behind x y xs (k, inside, is) = (suc k, omega (arith, inside), is)

-- the empty list contains nothing
pub Contains-nothing : {X : Type 0} (y : X) → Contains [] y → ⊥
Contains-nothing y (k, inside, is) = absurd (omega (arith, inside))

-- one element in front of others, kept or left out
kept_first : {X : Type 0} (b : Bool) (x y : X) (xs : List X) → b ≡ true → x ≡ y → Contains (if b then x ∷ xs else xs) y
kept_first true x y xs kept same = Contains-first x y xs same
kept_first false x y xs kept same = absurd cc

kept_behind : {X : Type 0} (b : Bool) (x y : X) (xs : List X) → Contains xs y → Contains (if b then x ∷ xs else xs) y
kept_behind true x y xs has = Contains-behind x y xs has
kept_behind false x y xs has = has

kept_cases : {X : Type 0} (b : Bool) (x y : X) (xs : List X) → Contains (if b then x ∷ xs else xs) y → ((b ≡ true) × (x ≡ y)) ⊎ Contains xs y
kept_cases true x y xs has = ⊎_elim (λ same. inl (refl, same)) (λ rest. inr rest) (Contains-cons_cases x y xs has)
kept_cases false x y xs has = inr has

-- an element that passes the test is kept
pub Contains-filter : {X : Type 0} (test : X → Bool) (xs : List X) (y : X) → Contains xs y → test y ≡ true → Contains (filter test xs) y
Contains-filter test [] y has passes = absurd (Contains-nothing y has)
Contains-filter test (x ∷ xs) y has passes =
    ⊎_elim (λ same. kept_first (test x) x y (filter test xs) (ap test same ∙ passes) same)
    (λ rest. kept_behind (test x) x y (filter test xs) (Contains-filter test xs y rest passes))
    (Contains-cons_cases x y xs has)

-- what is kept stood in the list, and passes the test
pub Contains-from_filter : {X : Type 0} (test : X → Bool) (xs : List X) (y : X) → Contains (filter test xs) y → Contains xs y × (test y ≡ true)
Contains-from_filter test [] y has = absurd (Contains-nothing y has)
Contains-from_filter test (x ∷ xs) y has =
    ⊎_elim (λ here. (Contains-first x y xs here.1, sym (ap test here.1) ∙ here.0))
    (λ rest. let found : Contains xs y × (test y ≡ true) = Contains-from_filter test xs y rest in (Contains-behind x y xs found.0, found.1))
    (kept_cases (test x) x y (filter test xs) has)

-- the image of an element is among the images
pub Contains-map : {X Y : Type 0} (f : X → Y) (xs : List X) (x : X) → Contains xs x → Contains (map f xs) (f x)
Contains-map f [] x has = absurd (Contains-nothing x has)
Contains-map f (z ∷ xs) x has =
    ⊎_elim (λ same. Contains-first (f z) (f x) (map f xs) (ap f same)) (λ rest. Contains-behind (f z) (f x) (map f xs) (Contains-map f xs x rest))
    (Contains-cons_cases z x xs has)

-- each of the images is that of an element
pub Contains-from_map : {X Y : Type 0} (f : X → Y) (xs : List X) (y : Y) → Contains (map f xs) y → (x : X) × Contains xs x × (f x ≡ y)
Contains-from_map f [] y has = absurd (Contains-nothing y has)
Contains-from_map f (z ∷ xs) y has =
    ⊎_elim (λ same. (z, Contains-first z z xs refl, same))
    (λ rest. let found : (x : _) × Contains xs x × (f x ≡ y) = Contains-from_map f xs y rest in (found.0, Contains-behind z found.0 xs found.1, found.2))
    (Contains-cons_cases (f z) y (map f xs) has)
