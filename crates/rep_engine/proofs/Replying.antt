-- Replies, one after another.
use Rattle.std.proofs.Common.{◌≡◌, ℕ, zero, suc, ◌+◌, ◌-◌, ◌<◌, List, [], ◌∷◌, ◌++◌, length, map, take, drop, slice_get, Some, refl, sym, ap, ◌∙◌, append_assoc, arith}
use Rattle.rep_types.specs.declared.judged.Judged.{Judged}
use Rattle.rep_types.specs.declared.reply.Reply.{Reply}
use Rattle.rep_types.specs.Replies.{reply_of}

-- one more item of a list
take_suc : (js : List Judged) (i : ℕ) (j : Judged) → slice_get js i ≡ Some j → take (suc i) js ≡ take i js ++ j ∷ []
take_suc [] zero j is = absurd cc
take_suc [] (suc i) j is = absurd cc
take_suc (k ∷ js) zero j is = let same : k ≡ j = cc in ap (λ (x : Judged). x ∷ []) same
take_suc (k ∷ js) (suc i) j is = ap (λ rest. k ∷ rest) (take_suc js i j is)

take_one_more : (js : List Judged) (i : ℕ) (j : Judged) → slice_get js i ≡ Some j → take (i + 1) js ≡ take i js ++ j ∷ []
take_one_more js i j is = let next : i + 1 ≡ suc i = omega arith in ap (λ k. take k js) next ∙ take_suc js i j is

replies-append : (js ks : List Judged) → map reply_of (js ++ ks) ≡ map reply_of js ++ map reply_of ks
replies-append [] ks = refl
replies-append (j ∷ js) ks = ap (λ rest. reply_of j ∷ rest) (replies-append js ks)

pub one_more_reply : (before : List Reply) (js : List Judged) (i : ℕ) (j : Judged) → slice_get js i ≡ Some j → (before ++ map reply_of (take i js)) ++ reply_of j ∷ [] ≡ before ++ map reply_of (take (i + 1) js)
one_more_reply before js i j is =
    append_assoc before (map reply_of (take i js)) (reply_of j ∷ []) ∙ ap (λ rest. before ++ rest) (sym (ap (map reply_of) (take_one_more js i j is) ∙ replies-append (take i js) (j ∷ [])))

-- there is an item at each place
pub one_there : (js : List Judged) (i : ℕ) → i < length js → (j : Judged) × (slice_get js i ≡ Some j)
one_there [] i lt = absurd (omega (arith, lt))
one_there (j ∷ js) zero lt = (j, refl)
one_there (j ∷ js) (suc i) lt = one_there js i (omega (arith, lt))

-- what comes behind a place begins with the item there
drop_at : (js : List Judged) (i : ℕ) (j : Judged) → slice_get js i ≡ Some j → drop i js ≡ j ∷ drop (suc i) js
drop_at [] zero j is = absurd cc
drop_at [] (suc i) j is = absurd cc
drop_at (k ∷ js) zero j is = let same : k ≡ j = cc in ap (λ (x : Judged). x ∷ js) same
drop_at (k ∷ js) (suc i) j is = drop_at js i j is

pub drop_one_more : (js : List Judged) (i : ℕ) (j : Judged) → slice_get js i ≡ Some j → drop i js ≡ j ∷ drop (i + 1) js
drop_one_more js i j is = let next : suc i ≡ i + 1 = omega arith in drop_at js i j is ∙ ap (λ k. j ∷ drop k js) next

-- so do the first of them
pub take_first : (n : ℕ) (j : Judged) (js : List Judged) → 0 < n → take n (j ∷ js) ≡ j ∷ take (n - 1) js
take_first zero j js some = absurd (omega (arith, some))
take_first (suc n) j js some = let less : n ≡ suc n - 1 = omega arith in ap (λ k. j ∷ take k js) less
