-- What is taken of a stream whose bytes are known, piece by piece.
use Rattle.std.specs.Prelude.{◌≡◌, ℕ, ◌+◌, ◌-◌, ◌^◌, min, List, ◌++◌, Option, Some, Result, IfOk, MatchOption}
use Rattle.rep_types.specs.declared.refusal.Refusal.{Refusal}

-- how many bytes were taken, with so many more; the count stops at the greatest that a number of 64 bits can be
abbrev pub counted : ℕ → ℕ → ℕ
counted taken n = min (taken + n) (2 ^ 64 - 1)

-- The bytes begin with the spelling of this value, and what is left stands behind it.
pub record Takes {A : Type 0} (Fits : A → Type 0) (spell : A → List ℕ) (x : A) (bytes : List ℕ) (left : Option (List ℕ)) : Type 0 where
  pub rest : List ℕ
  pub fits : Fits x
  pub front : bytes ≡ spell x ++ rest
  pub left_is : left ≡ Some rest

-- the bytes begin with the spelling of no value
abbrev pub BeginWithNone : {A : Type 0} → (A → Type 0) → (A → List ℕ) → List ℕ → Type 0
BeginWithNone {A} Fits spell bytes = (x : A) (rest : List ℕ) → Fits x → bytes ≡ spell x ++ rest → ⊥

-- What is found at the front of the bytes, unless the reader fails: the value that they begin with, and else None.
abbrev pub TakesOne : {A : Type 0} → (A → Type 0) → (A → List ℕ) → List ℕ → Option (List ℕ) → Result (Option A) Refusal → Type 0
TakesOne Fits spell bytes left result = IfOk result (λ found. MatchOption found (BeginWithNone Fits spell bytes) (λ x. Takes Fits spell x bytes left))
