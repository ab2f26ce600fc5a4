-- Numbers that ascend, and one more.
use Rattle.std.proofs.Common.{inl, inr, ℕ, ◌+◌, ◌<◌, List, [], ◌∷◌, ◌++◌, length, All, arith}
use Rattle.std.specs.List.Sorted.{IsStrictlyIncreasing}
use Rattle.std.proofs.lemmas.Bool.{cases_lt}
use Rattle.std.proofs.lemmas.List.{length_push, get_or_push, get_or_append_left}
use Rattle.std.proofs.lemmas.List.Elements.{All-get_or}

-- one number more, above all
pub ascend_push : (xs : List ℕ) (y : ℕ) → IsStrictlyIncreasing xs → All (λ (x : ℕ). x < y) xs → IsStrictlyIncreasing (xs ++ y ∷ [])
ascend_push xs y up below k within =
    let long = length_push xs y in
    let low = get_or_append_left xs (y ∷ []) 0 k (omega (arith, within, long)) in
    elim (cases_lt (k + 1) (length xs)) [
      | inl inside ↦ rw (low, get_or_append_left xs (y ∷ []) 0 (k + 1) inside) (up k inside)
      | inr end ↦ rw (low, get_or_push xs y 0 (k + 1) (omega (arith, within, long, end))) (All-get_or (λ (x : ℕ). x < y) xs k 0 (omega (arith, within, long)) below)
    ]
