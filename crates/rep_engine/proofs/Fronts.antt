-- What is accepted of what waits.
use Rattle.std.proofs.Common.{◌≡◌, ℕ, ◌+◌, ◌-◌, ◌<◌, ◌≤◌, false, List, [], ◌∷◌, ◌++◌, append_assoc, append-nil, slice_index_or, length, length-append, length-drop, take, drop, refl, sym, ap, subst, ◌∙◌, arith}
use Rattle.std.proofs.lemmas.List.{take-append-drop, drop_more, length-take-le}
use Rattle.rep_types.specs.declared.judged.Judged.{Judged}
use Rattle.rep_record.specs.Blocks.{has_room}
use Rattle.rep_record.specs.Fronts.{fitting, IsLongestFront, FrontsAreDetermined}
use Rattle.rep_log.specs.declared.phase.Phase.{Phase}
use Rattle.rep_log.specs.declared.phase.Phase.TheVariants.{Resting, Closing, Filling, Filled, Opening}
use Rattle.rep_engine.specs.Accepting.{accepted_in}
use Rattle.rep_engine.proofs.Accepting.{fitting_append, fitting_within, fits_more}

-- no more than there is
pub accepted_within : (phase : Phase) (block js : List Judged) → accepted_in phase block js ≤ length js
accepted_within Resting block js = fitting_within block js
accepted_within Closing block js = fitting_within block js
accepted_within (Filling n) block js = omega arith
accepted_within (Filled n) block js = omega arith
accepted_within (Opening n) block js = omega arith

-- with what was gathered it fits one block
front_fits : (block js : List Judged) → fitting [] block ≡ length block → fitting [] (block ++ take (fitting block js) js) ≡ length (block ++ take (fitting block js) js)
front_fits block js fits =
    let size : length (take (fitting block js) js) ≡ fitting block js = length-take-le (fitting block js) js (fitting_within block js) in
    omega (arith, fits_more block js fits, length-append block (take (fitting block js) js), size)

none_fits : (block js : List Judged) → fitting [] block ≡ length block → fitting [] (block ++ take 0 js) ≡ length (block ++ take 0 js)
none_fits block js fits = subst (λ (xs : List Judged). fitting [] xs ≡ length xs) (sym (append-nil block)) fits

pub accepted_fits : (phase : Phase) (block js : List Judged) → fitting [] block ≡ length block → fitting [] (block ++ take (accepted_in phase block js) js) ≡ length (block ++ take (accepted_in phase block js) js)
accepted_fits Resting block js fits = front_fits block js fits
accepted_fits Closing block js fits = front_fits block js fits
accepted_fits (Filling n) block js fits = none_fits block js fits
accepted_fits (Filled n) block js fits = none_fits block js fits
accepted_fits (Opening n) block js fits = none_fits block js fits

-- the first item that it did not take stops it
stops_there : (block js : List Judged) (k : ℕ) → IsLongestFront block js k → fitting (block ++ take k js) (drop k js) ≡ 0
stops_there block js k front = by (drop k js) refl
  where
    by : (rest : List Judged) → drop k js ≡ rest → fitting (block ++ take k js) rest ≡ 0
    by [] is = refl
    by (j ∷ rest) is =
        let long : length (drop k js) ≡ length js - k = length-drop k js in
        let inside : k < length js = omega (arith, long, ap length is) in
        let next : slice_index_or js k j ≡ j = ap (λ (xs : List Judged). slice_index_or xs 0 j) (sym (drop_more js k j inside) ∙ is) in
        let none : has_room (block ++ take k js) j ≡ false = ap (has_room (block ++ take k js)) (sym next) ∙ front.stops j inside in
        rw none refl

-- so a block that took it takes no more of what waits
pub accepted_all : FrontsAreDetermined → (block js : List Judged) → fitting [] (block ++ take (fitting block js) js) ≡ length (block ++ take (fitting block js) js) → fitting [] (block ++ take (fitting block js) js) ≡ fitting [] (block ++ js)
accepted_all fronts block js fits =
    let k : ℕ = fitting block js in
    let none : fitting (block ++ take k js) (drop k js) ≡ 0 = stops_there block js k (fronts.right block js) in
    let all : (block ++ take k js) ++ drop k js ≡ block ++ js = append_assoc block (take k js) (drop k js) ∙ ap (λ (xs : List Judged). block ++ xs) (take-append-drop k js) in
    let whole : fitting [] (block ++ js) ≡ length (block ++ take k js) + fitting (block ++ take k js) (drop k js) = ap (fitting []) (sym all) ∙ fitting_append [] (block ++ take k js) (drop k js) fits in
    omega (arith, whole, none, fits)
