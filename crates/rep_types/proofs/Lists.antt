-- Facts of lists that no word of this project stands in. Each stands here once, for all crates above.
use Rattle.std.proofs.Common.{◌≡◌, ℕ, zero, suc, ◌<◌, ◌≤◌, ◌^◌, Bool, true, false, List, [], ◌∷◌, ◌++◌, length, take, drop, get_or, refl, sym, ap, ◌∙◌, arith}
use Rattle.std.specs.Prelude.{◌==◌, filter, slice_index}
use Rattle.std.specs.List.{AllByRecursion, flat_map}
use Rattle.std.specs.Fmt.{decimal}
use Rattle.std.proofs.lemmas.Bool.Decides.{nat_tests}
use Rattle.std.proofs.lemmas.Fmt.{length-decimal-le}
use Rattle.std.proofs.lemmas.List.{append-nil, append_assoc, take_at, drop_at}

-- ---- lists that are empty

pub empty_by_length : {A : Type 0} (xs : List A) → length xs ≡ 0 → xs ≡ []
empty_by_length [] none = refl
empty_by_length (x ∷ xs) none = absurd (omega (arith, none))

pub empty_by_test : {A : Type 0} (xs : List A) → (length xs == 0) ≡ true → xs ≡ []
empty_by_test xs is = empty_by_length xs (grind (arith, nat_tests, is))

-- ---- parts of a list

-- the first element behind a list
pub get_behind : {A : Type 0} (xs ys : List A) (x d : A) → get_or (xs ++ x ∷ ys) (length xs) d ≡ x
get_behind [] ys x d = refl
get_behind (y ∷ xs) ys x d = get_behind xs ys x d

-- what stands behind the same list is the same
pub same_behind : {A : Type 0} (front xs ys : List A) → front ++ xs ≡ front ++ ys → xs ≡ ys
same_behind front xs ys same = sym (drop_at front xs (length front) refl) ∙ ap (drop (length front)) same ∙ drop_at front ys (length front) refl

-- what stands behind fronts of one length, and these
pub same_parts : {A : Type 0} (n : ℕ) (a b x y : List A) → length a ≡ n → length b ≡ n → a ++ x ≡ b ++ y → (a ≡ b) × (x ≡ y)
same_parts n a b x y m k e = (sym (take_at a x n m) ∙ ap (take n) e ∙ take_at b y n k, sym (drop_at a x n m) ∙ ap (drop n) e ∙ drop_at b y n k)

-- the first elements of lists that are the same, and the rests
pub same_first : {A : Type 0} (a b : A) (xs ys : List A) → a ∷ xs ≡ b ∷ ys → (a ≡ b) × (xs ≡ ys)
same_first a b xs ys same = (cc, ap (drop 1) same)

-- a map of one element more
pub flat_map_push : {A B : Type 0} (f : A → List B) (xs : List A) (x : A) → flat_map f (xs ++ x ∷ []) ≡ flat_map f xs ++ f x
flat_map_push f [] x = append-nil (f x)
flat_map_push {A} {B} f (y ∷ xs) x = ap (λ (bs : List B). f y ++ bs) (flat_map_push f xs x) ∙ sym (append_assoc (f y) (flat_map f xs) (f x))

-- ---- what holds of all elements

pub all_append : {A : Type 0} (P : A → Type 0) (xs ys : List A) → AllByRecursion P xs → AllByRecursion P ys → AllByRecursion P (xs ++ ys)
all_append P [] ys one two = two
all_append P (x ∷ xs) ys one two = (one.0, all_append P xs ys one.1 two)

pub all_push : {A : Type 0} (P : A → Type 0) (xs : List A) (x : A) → AllByRecursion P xs → P x → AllByRecursion P (xs ++ x ∷ [])
all_push P xs x all here = all_append P xs (x ∷ []) all (here, tt)

pub all_behind : {A : Type 0} (P : A → Type 0) (xs ys : List A) → AllByRecursion P (xs ++ ys) → AllByRecursion P ys
all_behind P [] ys all = all
all_behind P (x ∷ xs) ys all = all_behind P xs ys all.1

-- of one that stands in it
pub all_at : {A : Type 0} (P : A → Type 0) (xs : List A) (x : A) (ys : List A) → AllByRecursion P (xs ++ x ∷ ys) → P x
all_at P xs x ys all = (all_behind P xs (x ∷ ys) all).0

-- of those that a filter keeps
filter_step : {A : Type 0} (P : A → Type 0) (test : A → Bool) (b : Bool) (x : A) (xs : List A) → test x ≡ b → P x → AllByRecursion P (filter test xs) → AllByRecursion P (filter test (x ∷ xs))
filter_step P test true x xs is here rest = rw is (here, rest)
filter_step P test false x xs is here rest = rw is rest

pub all_filter : {A : Type 0} (P : A → Type 0) (test : A → Bool) (xs : List A) → AllByRecursion P xs → AllByRecursion P (filter test xs)
all_filter P test [] all = tt
all_filter P test (x ∷ xs) all = filter_step P test (test x) x xs refl all.0 (all_filter P test xs all.1)

-- ---- numbers

-- a filter keeps no more than there are
shorter_step : {A : Type 0} (test : A → Bool) (b : Bool) (x : A) (xs : List A) → test x ≡ b → length (filter test xs) ≤ length xs → length (filter test (x ∷ xs)) ≤ suc (length xs)
shorter_step test true x xs is short = rw is (omega (arith, short))
shorter_step test false x xs is short = rw is (omega (arith, short))

pub filter_no_longer : {A : Type 0} (test : A → Bool) (xs : List A) → length (filter test xs) ≤ length xs
filter_no_longer test [] = omega arith
filter_no_longer test (x ∷ xs) = shorter_step test (test x) x xs refl (filter_no_longer test xs)

-- what is below a number of a list, which has 32 bits, and where this one stands
pub below_one_of : (ns : List ℕ) (i n : ℕ) → AllByRecursion (λ (m : ℕ). m < 2 ^ 32) ns → n < slice_index ns i → (i < length ns) × (n < 2 ^ 32)
below_one_of [] i n small below = grind arith
below_one_of (m ∷ ns) zero n small below = grind arith
below_one_of (m ∷ ns) (suc i) n small below = grind (arith, below_one_of ns i n small.1)

-- a number of 64 bits has at most 20 digits
pub decimal_fits : (n : ℕ) → n < 2 ^ 64 → length (decimal n) ≤ 20
decimal_fits n small = length-decimal-le 20 n (omega arith) (omega (arith, small)) small
