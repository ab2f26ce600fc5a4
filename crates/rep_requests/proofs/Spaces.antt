-- Where the first space of a line stands.
use Rattle.std.proofs.Common.{◌≡◌, ℕ, suc, zero, ◌+◌, ◌-◌, ◌<◌, ◌≤◌, ◌⊎◌, inl, inr, Bool, true, false, List, [], ◌∷◌, ◌++◌, length, take, drop, None, Some, refl, ap, arith, length-append}
use Rattle.std.specs.Prelude.{◌==◌}
use Rattle.std.specs.List.{position_or_len}
use Rattle.std.proofs.lemmas.List.{take_at}
use Rattle.std.proofs.lemmas.Bool.{lt-ltb, le-ltb, eqb-true}
use Rattle.rep_record.specs.Words.{cut}

-- no byte of the list is a space
abbrev pub HasNoSpace : List ℕ → Type 0
HasNoSpace [] = Unit {0}
HasNoSpace (b ∷ bs) = ((b == 32) ≡ false) × HasNoSpace bs

-- as many bytes as stand before the space
space_place : (front back : List ℕ) → HasNoSpace front → position_or_len (λ b. b == 32) (front ++ 32 ∷ back) ≡ length front
space_place [] back none = refl
space_place (b ∷ bs) back none =
    let later = space_place bs back none.1 in
    rw none.0 (omega (arith, later))

-- all of them
no_place : (line : List ℕ) → HasNoSpace line → position_or_len (λ b. b == 32) line ≡ length line
no_place [] none = refl
no_place (b ∷ bs) none =
    let later = no_place bs none.1 in
    rw none.0 (omega (arith, later))

-- a line is cut at its first space
pub cut_at_space : (front back : List ℕ) → HasNoSpace front → cut 32 (front ++ 32 ∷ back) ≡ Some (front, back)
unfolding cut
cut_at_space front back none =
    let within : length front < length (front ++ 32 ∷ back) = omega (arith, length-append front (32 ∷ back)) in
    rw (space_place front back none, lt-ltb (length front) (length (front ++ 32 ∷ back)) within)
    (ap (λ p. Some p) (parts (take_at front (32 ∷ back) (length front) refl) (behind front back)))
  where
    parts : {a b c d : List ℕ} → a ≡ b → c ≡ d → ◌≡◌ {A = List ℕ × List ℕ} (a, c) (b, d)
    parts p q = rw (p, q) refl

    behind : (front back : List ℕ) → drop (length front + 1) (front ++ 32 ∷ back) ≡ back
    behind [] back = refl
    behind (b ∷ bs) back =
        let more : length (b ∷ bs) + 1 ≡ suc (length bs + 1) = omega arith in
        rw more (behind bs back)

-- a line without a space is not cut
pub cut_nowhere : (line : List ℕ) → HasNoSpace line → cut 32 line ≡ None
unfolding cut
cut_nowhere line none = rw (no_place line none, le-ltb (length line) (length line) (omega arith)) refl

-- the line has a first space, or none
pub record IsCut (line : List ℕ) : Type 0 where
  pub front : List ℕ
  pub back : List ℕ
  pub none : HasNoSpace front
  pub whole : line ≡ front ++ 32 ∷ back

cut_step : (b : ℕ) (bs : List ℕ) (t : Bool) → (b == 32) ≡ t → IsCut bs ⊎ HasNoSpace bs → IsCut (b ∷ bs) ⊎ HasNoSpace (b ∷ bs)
cut_step b bs true e later = inl (record { front = []; back = bs; none = tt; whole = ap (λ x. x ∷ bs) (eqb-true b 32 e) })
cut_step b bs false e (inl later) = inl (record { front = b ∷ later.front; back = later.back; none = (e, later.none); whole = ap (λ l. b ∷ l) later.whole })
cut_step b bs false e (inr none) = inr (e, none)

pub cut_or_none : (line : List ℕ) → IsCut line ⊎ HasNoSpace line
cut_or_none [] = inr tt
cut_or_none (b ∷ bs) = cut_step b bs (b == 32) refl (cut_or_none bs)

-- a front of what has no space
pub front_none : (n : ℕ) (line : List ℕ) → HasNoSpace line → HasNoSpace (take n line)
front_none zero line none = tt
front_none (suc n) [] none = tt
front_none (suc n) (b ∷ bs) none = (none.0, front_none n bs none.1)

-- so many bytes have none, so the space stands behind them
pub space_behind : (n : ℕ) (front back : List ℕ) → HasNoSpace (take n (front ++ 32 ∷ back)) → n ≤ length front
space_behind zero front back none = omega arith
space_behind (suc n) [] back none = absurd cc
space_behind (suc n) (b ∷ bs) back none = let later = space_behind n bs back none.1 in omega (arith, later)

-- the space stands behind so many bytes, so these have none
pub space_after : (n : ℕ) (front back : List ℕ) → HasNoSpace front → n ≤ length front → HasNoSpace (take n (front ++ 32 ∷ back))
space_after zero front back none less = tt
space_after (suc n) [] back none less = absurd (omega (arith, less))
space_after (suc n) (b ∷ bs) back none less = (none.0, space_after n bs back none.1 (omega (arith, less)))

-- a front of a line that has the space
pub front_at : (n : ℕ) (front back : List ℕ) → length front < n → take n (front ++ 32 ∷ back) ≡ front ++ 32 ∷ take (n - (length front + 1)) back
front_at zero front back less = absurd (omega (arith, less))
front_at (suc n) [] back less = let same : suc n - (0 + 1) ≡ n = omega arith in rw same refl
front_at (suc n) (b ∷ bs) back less =
    let same : suc n - (length (b ∷ bs) + 1) ≡ n - (length bs + 1) = omega arith in
    rw same (ap (λ l. b ∷ l) (front_at n bs back (omega (arith, less))))
