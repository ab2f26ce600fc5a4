-- Reading one thing after another, as a loop does.
use Rattle.std.proofs.Common.{◌≡◌, ℕ, suc, ◌-◌, ◌+◌, ◌≤◌, ◌<◌, List, [], ◌∷◌, ◌++◌, Option, None, Some, refl, sym, ◌∙◌, append_assoc, arith}
use Rattle.std.proofs.lemmas.List.{append-nil}
use Rattle.rep_forms.specs.Options.{◌>>=◌}
use Rattle.rep_forms.specs.Forms.{each}

-- what was read before, and what is still read
abbrev pub with_front : {A : Type 0} → List A → Option (List A × List ℕ) → Option (List A × List ℕ)
with_front front read = read >>= λ x. Some (front ++ x.0, x.1)

-- one more at the end of what was read before
regroup : {A : Type 0} (front : List A) (x : A) (read : Option (List A × List ℕ)) → with_front front (read >>= λ xs. Some (x ∷ xs.0, xs.1)) ≡ with_front (front ++ x ∷ []) read
regroup front x None = refl
regroup front x (Some xs) = grind (arith, append_assoc)

-- a turn that reads one more
pub goes_on : {A : Type 0} (f : List ℕ → Option (A × List ℕ)) (front : List A) (count i : ℕ) (bytes : List ℕ) (x : A) (after : List ℕ) (total : Option (List A × List ℕ))
    → i < count → Some (x, after) ≡ f bytes → with_front front (each f (count - i) bytes) ≡ total → with_front (front ++ x ∷ []) (each f (count - (i + 1)) after) ≡ total
unfolding each
goes_on f front count i bytes x after total lt h so_far =
    let k : count - i ≡ suc (count - (i + 1)) = omega arith in
    sym (regroup front x (each f (count - (i + 1)) after)) ∙ rw (k, ← h) at so_far

-- a turn that finds nothing
pub ends : {A : Type 0} (f : List ℕ → Option (A × List ℕ)) (front : List A) (count i : ℕ) (bytes : List ℕ) (total : Option (List A × List ℕ))
    → i < count → None ≡ f bytes → with_front front (each f (count - i) bytes) ≡ total → None ≡ total
unfolding each
ends f front count i bytes total lt h so_far = let k : count - i ≡ suc (count - (i + 1)) = omega arith in rw (k, ← h) at so_far

-- after the last turn
pub is_done : {A : Type 0} (f : List ℕ → Option (A × List ℕ)) (front : List A) (count i : ℕ) (bytes : List ℕ) (total : Option (List A × List ℕ))
    → count ≤ i → with_front front (each f (count - i) bytes) ≡ total → Some (front, bytes) ≡ total
unfolding each
is_done f front count i bytes total le so_far = let k : count - i ≡ 0 = omega arith in rw (k, append-nil) at so_far

-- before the first turn
pub begins : {A : Type 0} (f : List ℕ → Option (A × List ℕ)) (count : ℕ) (bytes : List ℕ) → with_front [] (each f (count - 0) bytes) ≡ each f count bytes
begins f count bytes = grind arith
