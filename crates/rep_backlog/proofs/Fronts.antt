-- A front of a list while it is moved into a block.
use Rattle.std.proofs.Common.{◌≡◌, ℕ, zero, suc, ◌+◌, ◌<◌, true, false, List, [], ◌∷◌, ◌++◌, length, take, drop, get_or, slice_get, Some, None, refl, sym, ap, ◌∙◌, append_assoc, arith, length-drop}
use Rattle.std.proofs.lemmas.List.{take_more, drop_more}
use Rattle.rep_types.specs.declared.judged.Judged.{Judged}
use Rattle.rep_record.specs.Blocks.{has_room}
use Rattle.rep_record.specs.Fronts.{fitting}

-- a list with a first item is that item and the rest
first_and_rest : (js : List Judged) (j : Judged) → slice_get js 0 ≡ Some j → js ≡ j ∷ drop 1 js
first_and_rest [] j is = absurd (cc)
first_and_rest (i ∷ js) j is = let same : i ≡ j = cc in ap (λ (k : Judged). k ∷ js) same

-- where an item comes first behind the first m, there are more than m items
pub more_than : (js : List Judged) (m : ℕ) (j : Judged) → slice_get (drop m js) 0 ≡ Some j → m < length js
more_than js m j is = omega (arith, ap length (first_and_rest (drop m js) j is), length-drop m js)

-- and it is the one at m
item_at : (js : List Judged) (m : ℕ) (j : Judged) → slice_get (drop m js) 0 ≡ Some j → get_or js m j ≡ j
item_at js m j is =
    let split : get_or js m j ∷ drop (m + 1) js ≡ j ∷ drop 1 (drop m js) = sym (drop_more js m j (more_than js m j is)) ∙ first_and_rest (drop m js) j is in
    cc

-- what is left behind one more
pub rest_after : (js : List Judged) (m : ℕ) (j : Judged) → slice_get (drop m js) 0 ≡ Some j → drop 1 (drop m js) ≡ drop (m + 1) js
rest_after js m j is = ap (drop 1) (drop_more js m j (more_than js m j is))

-- the block with one more
pub with_one_more : (block js : List Judged) (m : ℕ) (j : Judged) → slice_get (drop m js) 0 ≡ Some j → block ++ take (m + 1) js ≡ (block ++ take m js) ++ j ∷ []
with_one_more block js m j is =
    ap (λ (front : List Judged). block ++ front) (take_more js m j (more_than js m j is) ∙ ap (λ (k : Judged). take m js ++ k ∷ []) (item_at js m j is)) ∙ sym (append_assoc block (take m js) (j ∷ []))

-- a list without a first item is empty, and a block takes none of it
pub fitting_none : (block js : List Judged) → slice_get js 0 ≡ None → fitting block js ≡ 0
fitting_none block [] is = refl
fitting_none block (j ∷ js) is = absurd (cc)

-- where the block takes the first item of a list
pub fitting_first : (block js : List Judged) (j : Judged) → slice_get js 0 ≡ Some j → has_room block j ≡ true → fitting block js ≡ fitting (block ++ j ∷ []) (drop 1 js) + 1
fitting_first block js j is room = ap (fitting block) (first_and_rest js j is) ∙ rw room refl

-- and where it doesn't
pub fitting_no_first : (block js : List Judged) (j : Judged) → slice_get js 0 ≡ Some j → has_room block j ≡ false → fitting block js ≡ 0
fitting_no_first block js j is full = ap (fitting block) (first_and_rest js j is) ∙ rw full refl

-- what comes first behind the first m is what is at m
pub get_behind : (js : List Judged) (m : ℕ) → slice_get (drop m js) 0 ≡ slice_get js m
get_behind js zero = refl
get_behind [] (suc m) = refl
get_behind (j ∷ js) (suc m) = get_behind js m
