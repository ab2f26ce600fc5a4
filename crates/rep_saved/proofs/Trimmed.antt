-- Lemmas on lines without their blanks.
use Rattle.std.proofs.Common.{◌-◌, ◌+◌, ◌≤◌, length, take, get_or, arith, ◌≡◌, ℕ, true, false, List, [], ◌∷◌, ◌++◌, refl, sym, ap, ◌∙◌}
use Rattle.std.proofs.Math.Seq.{take-length}
use Rattle.std.proofs.lemmas.List.{take_more}
use Rattle.rep_saved.specs.Lines.{is_blank, before, up_to_last}

-- a blank at the end is left out
pub blank_last : (xs : List ℕ) (b : ℕ) → is_blank b ≡ true → up_to_last (xs ++ b ∷ []) ≡ up_to_last xs
blank_last [] b e = rw e refl
blank_last (x ∷ xs) b e = ap (before x) (blank_last xs b e)

-- a byte before some
before_some : (x : ℕ) (xs : List ℕ) (b : ℕ) → before x (xs ++ b ∷ []) ≡ x ∷ (xs ++ b ∷ [])
before_some x [] b = refl
before_some x (y ∷ ys) b = refl

-- any other byte at the end keeps all
pub other_last : (xs : List ℕ) (b : ℕ) → is_blank b ≡ false → up_to_last (xs ++ b ∷ []) ≡ xs ++ b ∷ []
other_last [] b e = rw e refl
other_last (x ∷ xs) b e = ap (before x) (other_last xs b e) ∙ before_some x xs b

-- a list that is not empty, by its last element
pub by_last : (xs : List ℕ) → 1 ≤ length xs → xs ≡ take (length xs - 1) xs ++ get_or xs (length xs - 1) 0 ∷ []
by_last xs some =
    let n : length xs - 1 + 1 ≡ length xs = omega (arith, some) in
    sym (take-length xs) ∙ ap (λ k. take k xs) (sym n) ∙ take_more xs (length xs - 1) 0 (omega (arith, some))
