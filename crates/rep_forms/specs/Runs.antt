-- Values one after another, each of which has to be allowed behind those before it.
use Rattle.std.specs.Prelude.{◌≡◌, ℕ, ◌<◌, List, [], ◌∷◌, ◌++◌, length, drop, Option, Some}
use Rattle.std.specs.Option.{option_map_or}
use Rattle.std.specs.List.{flat_map, AllByRecursion}
use Rattle.rep_forms.specs.Forms.{Form, each}

-- the values that are spelled there, so many of them
abbrev pub values_in : {A : Type 0} → (List ℕ → Option (A × List ℕ)) → ℕ → List ℕ → List A
values_in {A} read n bytes = option_map_or (λ (x : List A × List ℕ). x.0) (each read n bytes) []

-- The values lead from one state to another, where a step says to which state a value leads if it is allowed.
abbrev pub Leads : {S A : Type 0} → (S → A → Option S) → S → List A → S → Type 0
Leads step s [] t = s ≡ t
Leads {S} step s (x ∷ xs) t = (u : S) × (step s x ≡ Some u) × Leads step u xs t

-- They are allowed, one after another.
abbrev pub Follow : {S A : Type 0} → (S → A → Option S) → S → List A → Type 0
Follow {S} step s xs = (t : S) × Leads step s xs t

-- From the front of the bytes up to an offset these values are spelled.
pub record SpelledTo {A : Type 0} (F : Form A) (bytes : List ℕ) (at : ℕ) (xs : List A) : Type 0 where
  pub each : AllByRecursion F.Fits xs
  pub place : at ≡ length (flat_map F.spell xs)
  pub there : bytes ≡ flat_map F.spell xs ++ drop at bytes

-- Up to an offset so many values are spelled and allowed.
pub record EndsAt {S A : Type 0} (F : Form A) (step : S → A → Option S) (s : S) (count : ℕ) (bytes : List ℕ) (at : ℕ) : Type 0 where
  pub values : List A
  pub spelled : SpelledTo F bytes at values
  pub size : length values ≡ count
  pub follow : Follow step s values

-- Up to an offset fewer values than these are spelled and allowed, and no further one is there.
pub record StopsAt {S A : Type 0} (F : Form A) (step : S → A → Option S) (s : S) (count : ℕ) (bytes : List ℕ) (at : ℕ) : Type 0 where
  pub before : List A
  pub spelled : SpelledTo F bytes at before
  pub fewer : length before < count
  pub state : S
  pub leads : Leads step s before state
  pub none : (x : A) (rest : List ℕ) (t : S) → F.Fits x → step state x ≡ Some t → drop at bytes ≡ F.spell x ++ rest → ⊥

-- So many values are spelled and allowed up to where the rest begins.
pub record IsChain {S A : Type 0} (F : Form A) (step : S → A → Option S) (s : S) (count : ℕ) (bytes : List ℕ) (xs : List A) (rest : List ℕ) : Type 0 where
  pub size : length xs ≡ count
  pub each : AllByRecursion F.Fits xs
  pub follow : Follow step s xs
  pub there : bytes ≡ flat_map F.spell xs ++ rest
