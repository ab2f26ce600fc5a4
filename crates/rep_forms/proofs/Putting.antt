-- Bytes put behind others.
use Rattle.std.proofs.Common.{◌≡◌, ℕ, zero, suc, ◌+◌, ◌*◌, ◌≤◌, replicate, take, Option, None, Some, List, [], ◌∷◌, ◌++◌, refl, sym, ap, ◌∙◌, append_assoc, arith, length-append}
use Rattle.std.proofs.lemmas.List.{append-nil, take-replicate, replicate-append-replicate}
use Rattle.rep_forms.specs.FormLaws.{length_zeros}
use Rattle.rep_forms.specs.Forms.{Form, zeros, Strips, StripsFront}

-- no zeros, and one more
pub zeros_none : zeros 0 ≡ []
unfolding zeros
zeros_none = refl

pub zeros_more : (n : ℕ) → zeros (n + 1) ≡ zeros n ++ 0 ∷ []
unfolding zeros
zeros_more zero = refl
zeros_more (suc n) = grind (arith, zeros_more n)

-- zeros behind zeros, and 64 more
pub zeros_join : (m n : ℕ) → zeros m ++ zeros n ≡ zeros (m + n)
unfolding zeros
zeros_join m n = replicate-append-replicate {A = ℕ} m n 0

pub blanks_none : zeros (64 * 0) ≡ []
unfolding zeros
blanks_none = refl

pub blanks_more : (n : ℕ) → zeros (64 * (n + 1)) ≡ zeros (64 * n) ++ replicate 64 0
unfolding zeros
blanks_more n = ap zeros (omega arith) ∙ sym (zeros_join (64 * n) 64)

-- what a turn of a loop puts
pub ruleset blanks_so_far = (blanks_none, blanks_more, length_zeros, length-append, append_assoc, append-nil)

-- a front of so many zeros
pub front_blank : (k : ℕ) → k ≤ 64 → take k (replicate 64 0) ≡ zeros k
unfolding zeros
front_blank k le = take-replicate {X = ℕ} k 64 0 le

pub ruleset blanks_and_zeros = (zeros_join, front_blank, length_zeros, length-append, append_assoc)

-- what stands behind a spelling
pub stripped : {A : Type 0} (F : Form A) (x : A) (front bytes : List ℕ) (result : Option (List ℕ)) → F.Fits x → front ≡ F.spell x → Strips front bytes result → StripsFront F x bytes result
stripped F x front bytes None fits e h = record { found = tt; only = λ rest also there. h.only rest (there ∙ ap (λ (f : List ℕ). f ++ rest) (sym e)) }
stripped F x front bytes (Some found) fits e h = record {
  found = (fits, h.found ∙ ap (λ (f : List ℕ). f ++ found) e);
  only = λ rest also there. h.only rest (there ∙ ap (λ (f : List ℕ). f ++ rest) (sym e));
}
