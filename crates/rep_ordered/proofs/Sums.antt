-- Sums over lists, and lists read by `get_elem?`.
use Rattle.std.proofs.Common.{◌≡◌, ◌≢◌, ℕ, zero, suc, ◌+◌, ◌^◌, ◌<◌, ◌≤◌, eqb, max, min, List, [], ◌∷◌, ◌++◌, length, get_or, set, if◌then◌else◌, sym, refl, ap, subst, arith, eq-eqb, ne_eqb}
use mathlib.Core.Option.{some, some-injective, some-ne-none}
use mathlib.Core.Logic.{dite}
use native.Mathlib.Decide.{ℕ_discrete}
use lib.ListN.{get_elem?}
use Rattle.rep_ordered.specs.declared.view.Hold.{Hold}
use Rattle.rep_ordered.specs.declared.view.Reached.{Reached}
use Rattle.rep_ordered.specs.Counts.{one, total}
use Rattle.rep_ordered.specs.Views.{Every, held_at, word_at, floor_at, except, hold, reached_at, reach, backed_after, names, common_after}

module _ {A : Type 0} (f : A → ℕ) where
  pub total_append : (xs ys : List A) → total f (xs ++ ys) ≡ total f xs + total f ys
  total_append [] ys = omega arith
  total_append (x ∷ xs) ys = let e = total_append xs ys in omega arith

  pub total_snoc : (xs : List A) (x : A) → total f (xs ++ x ∷ []) ≡ total f xs + f x
  total_snoc xs x = let e = total_append xs (x ∷ []) in omega arith

  pub total_at : (xs : List A) (i : ℕ) (v : A) → get_elem? xs i ≡ some v → f v ≤ total f xs
  total_at [] i v e = absurd (some-ne-none v (sym e))
  total_at (x ∷ xs) zero v e = let s : f x ≡ f v = ap f (some-injective x v e) in omega arith
  total_at (x ∷ xs) (suc i) v e = let s = total_at xs i v e in omega arith

  pub total_set : (xs : List A) (i : ℕ) (v w : A) → get_elem? xs i ≡ some v → total f (set xs i w) + f v ≡ total f xs + f w
  total_set [] i v w e = absurd (some-ne-none v (sym e))
  total_set (x ∷ xs) zero v w e = let s : f x ≡ f v = ap f (some-injective x v e) in omega arith
  total_set (x ∷ xs) (suc i) v w e = let s = total_set xs i v w e in omega arith

  pub total_two : (xs : List A) (i j : ℕ) (v w : A) → i ≢ j → get_elem? xs i ≡ some v → get_elem? xs j ≡ some w → f v + f w ≤ total f xs
  total_two [] i j v w n e d = absurd (some-ne-none v (sym e))
  total_two (x ∷ xs) zero zero v w n e d = absurd (n refl)
  total_two (x ∷ xs) zero (suc j) v w n e d = let s : f x ≡ f v = ap f (some-injective x v e) in let t = total_at xs j w d in omega arith
  total_two (x ∷ xs) (suc i) zero v w n e d = let s : f x ≡ f w = ap f (some-injective x w d) in let t = total_at xs i v e in omega arith
  total_two (x ∷ xs) (suc i) (suc j) v w n e d = let t = total_two xs i j v w (λ h. n (ap suc h)) e d in omega arith

  pub total_zero : (xs : List A) → ((i : ℕ) (v : A) → get_elem? xs i ≡ some v → f v ≡ 0) → total f xs ≡ 0
  total_zero [] h = refl
  total_zero (x ∷ xs) h = let a = h 0 x refl in let b = total_zero xs (λ i v e. h (suc i) v e) in omega arith

module _ {A : Type 0} where
  pub every_map : (P Q : A → Type 0) (xs : List A) → ((x : A) → P x → Q x) → Every P xs → Every Q xs
  every_map P Q [] f e = tt
  every_map P Q (x ∷ xs) f e = (f x e.0, every_map P Q xs f e.1)

  pub every_append : (P : A → Type 0) (xs ys : List A) → Every P xs → Every P ys → Every P (xs ++ ys)
  every_append P [] ys e f = f
  every_append P (x ∷ xs) ys e f = (e.0, every_append P xs ys e.1 f)

  pub below_length : (xs : List A) (i : ℕ) (a : A) → get_elem? xs i ≡ some a → i < length xs
  below_length [] i a e = absurd (some-ne-none a (sym e))
  below_length (x ∷ xs) zero a e = omega arith
  below_length (x ∷ xs) (suc i) a e = let s = below_length xs i a e in omega arith

-- what holds of each hold, where the station j is not among them
pub every_away : (P Q : Hold → Type 0) (j : ℕ) (held : List Hold) → held_at j held ≡ 0 → ((h : Hold) → h.station ≢ j → P h → Q h) → Every P held → Every Q held
every_away P Q j [] none f e = tt
every_away P Q j (h ∷ hs) none f e = (f h (λ same. absurd (omega arith)) e.0, every_away P Q j hs (omega arith) f e.1)

-- what holds of each hold, of the station j, where it is among them
pub every_at : (P : Hold → Type 0) (j : ℕ) (held : List Hold) → 0 < held_at j held → Every P held → P (hold j (word_at j held) (floor_at j held))
every_at P j [] some_hold e = absurd (omega arith)
every_at P j (h ∷ hs) some_hold e = dite (ℕ_discrete j h.station)
    (λ same. subst (λ b. P (hold j (if b then h.word else word_at j hs) (if b then h.floor else floor_at j hs))) (sym (eq-eqb j h.station same)) (subst (λ (i : ℕ). P (hold i h.word h.floor)) (sym same) e.0))
    (λ other. subst (λ b. P (hold j (if b then h.word else word_at j hs) (if b then h.floor else floor_at j hs))) (sym (ne_eqb j h.station other)) (every_at P j hs (omega arith) e.1))

-- the same of the others
pub every_except : (P : Hold → Type 0) (j : ℕ) (held : List Hold) → Every P held → Every P (except j held)
every_except P j [] e = tt
every_except P j (h ∷ hs) e = dite (ℕ_discrete j h.station)
    (λ same. subst (λ b. Every P (if b then hs else h ∷ except j hs)) (sym (eq-eqb j h.station same)) e.1)
    (λ other. subst (λ b. Every P (if b then hs else h ∷ except j hs)) (sym (ne_eqb j h.station other)) (e.0, every_except P j hs e.1))

pub held_here : (j : ℕ) (held : List Hold) → 0 < held_at j held → held_at j held ≡ 1 + held_at j (except j held)
held_here j [] some_hold = absurd (omega arith)
held_here j (h ∷ hs) some_hold = dite (ℕ_discrete j h.station)
    (λ same. subst (λ b. held_at j (h ∷ hs) ≡ 1 + held_at j (if b then hs else h ∷ except j hs)) (sym (eq-eqb j h.station same)) (omega arith))
    (λ other. subst (λ b. held_at j (h ∷ hs) ≡ 1 + held_at j (if b then hs else h ∷ except j hs)) (sym (ne_eqb j h.station other)) (let e = held_here j hs (omega arith) in omega arith))

pub held_else : (i j : ℕ) (held : List Hold) → i ≢ j → held_at i (except j held) ≡ held_at i held
held_else i j [] apart = refl
held_else i j (h ∷ hs) apart = dite (ℕ_discrete j h.station)
    (λ same. subst (λ b. held_at i (if b then hs else h ∷ except j hs) ≡ held_at i (h ∷ hs)) (sym (eq-eqb j h.station same)) (omega arith))
    (λ other. subst (λ b. held_at i (if b then hs else h ∷ except j hs) ≡ held_at i (h ∷ hs)) (sym (ne_eqb j h.station other)) (let e = held_else i j hs apart in omega arith))

-- a station that has a word is held
pub held_with : (j : ℕ) (held : List Hold) → 0 < word_at j held → 0 < held_at j held
held_with j [] some_word = absurd (omega arith)
held_with j (h ∷ hs) some_word = dite (ℕ_discrete j h.station)
    (λ same. omega arith)
    (λ other. let behind = held_with j hs (subst (λ b. 0 < (if b then h.word else word_at j hs)) (ne_eqb j h.station other) some_word) in omega arith)

pub get_or_there : (xs : List ℕ) (i : ℕ) → i < length xs → get_elem? xs i ≡ some (get_or xs i 0)
get_or_there [] i h = absurd (omega arith)
get_or_there (x ∷ xs) zero h = refl
get_or_there (x ∷ xs) (suc i) h = get_or_there xs i (omega arith)

pub get_or_is : (xs : List ℕ) (i a : ℕ) → get_elem? xs i ≡ some a → get_or xs i 0 ≡ a
get_or_is [] i a e = absurd (some-ne-none a (sym e))
get_or_is (x ∷ xs) zero a e = some-injective x a e
get_or_is (x ∷ xs) (suc i) a e = get_or_is xs i a e

pub one_equal : (x y : ℕ) → 0 < one x y → x ≡ y
one_equal x y h = omega arith

-- the numbers that a station was seen at, after one more
pub reached_more : (j i n m : ℕ) (rs : List Reached) → reached_at j rs ≤ m → (j ≡ i → n ≤ m) → reached_at j (reach i n ∷ rs) ≤ m
reached_more j i n m rs old new = dite (ℕ_discrete j i)
    (λ e. subst (λ b. max (if b then n else 0) (reached_at j rs) ≤ m) (sym (eq-eqb j i e)) (let l = new e in omega arith))
    (λ ne. subst (λ b. max (if b then n else 0) (reached_at j rs) ≤ m) (sym (ne_eqb j i ne)) (omega arith))

pub reached_both : (j m : ℕ) (rs ts : List Reached) → reached_at j rs ≤ m → reached_at j ts ≤ m → reached_at j (rs ++ ts) ≤ m
reached_both j m [] ts a b = b
reached_both j m (r ∷ rs) ts a b = let x : ℕ = if eqb j r.station then r.number else 0 in let y : ℕ = reached_at j rs in let old : max x y ≤ m = a in
    let s = reached_both j m rs ts (omega arith) b in let z : ℕ = reached_at j (rs ++ ts) in let t : z ≤ m = s in let goal : max x z ≤ m = omega arith in goal

pub backed_here : (j a b : ℕ) → j ≡ 1 → backed_after j a b ≡ a
backed_here j a b e = subst (λ t. (if t then a else b) ≡ a) (sym (eq-eqb j 1 e)) refl

pub backed_else : (j a b : ℕ) → j ≢ 1 → backed_after j a b ≡ b
backed_else j a b n = subst (λ t. (if t then a else b) ≡ b) (sym (ne_eqb j 1 n)) refl

-- the number that is named covers the durable number of station 1's value still, after a station was entered or left
pub covered_after : (j d known now : ℕ) → (j ≡ 1 → min d (2 ^ 60) ≤ now) → min known (2 ^ 60) ≤ now → min (backed_after j d known) (2 ^ 60) ≤ now
covered_after j d known now here away = let x : ℕ = backed_after j d known in dite (ℕ_discrete j 1)
    (λ e. let a = here e in let p : x ≡ d = backed_here j d known e in let goal : min x (2 ^ 60) ≤ now = omega arith in goal)
    (λ n. let p : x ≡ known = backed_else j d known n in let goal : min x (2 ^ 60) ≤ now = omega arith in goal)

pub common_here : (j a b : ℕ) → 0 < names j → common_after j a b ≡ a
common_here j a b some_name = subst (λ t. (if t then b else a) ≡ a) (sym (ne_eqb (names j) 0 (λ e. omega arith))) refl

pub common_else : (j a b : ℕ) → names j ≡ 0 → common_after j a b ≡ b
common_else j a b none = subst (λ t. (if t then b else a) ≡ b) (sym (eq-eqb (names j) 0 none)) refl

module _ {A : Type 0} (f : A → ℕ) where
  -- the sum where all others count nothing
  pub total_only : (xs : List A) (i : ℕ) (v : A) → get_elem? xs i ≡ some v → ((j : ℕ) (w : A) → j ≢ i → get_elem? xs j ≡ some w → f w ≡ 0) → total f xs ≡ f v
  total_only [] i v e none = absurd (some-ne-none v (sym e))
  total_only (x ∷ xs) zero v e none = let a : f x ≡ f v = ap f (some-injective x v e) in let b = total_zero f xs (λ j w t. none (suc j) w (λ z. omega arith) t) in omega arith
  total_only (x ∷ xs) (suc i) v e none = let a = none 0 x (λ z. omega arith) refl in let b = total_only xs i v e (λ j w apart t. none (suc j) w (λ z. apart (omega arith)) t) in omega arith
