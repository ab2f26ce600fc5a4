-- States of pages by fours, as loops go over them.
use Rattle.std.proofs.Common.{◌≡◌, ℕ, zero, suc, ◌+◌, ◌*◌, List, [], ◌∷◌, ◌++◌, drop, refl, ap, ◌∙◌, arith, add-one}
use Rattle.std.proofs.lemmas.List.{drop-drop}
use Rattle.rep_layout.specs.declared.page_state.PageState.{PageState}
use Rattle.rep_layout.specs.declared.page_state.Four.{Four}
use Rattle.rep_layout.specs.PageStates.{four_at, fours}

-- one four more
pub fours_more : (n : ℕ) (states : List PageState) → fours (n + 1) states ≡ fours n states ++ four_at (drop (4 * n) states) ∷ []
unfolding fours
fours_more zero states = refl
fours_more (suc n) states =
    let place : 4 + 4 * n ≡ 4 * suc n = omega arith in
    rw add-one (ap (λ (fs : List Four). four_at states ∷ fs) (rw add-one at (fours_more n (drop 4 states)) ∙ rw (drop-drop (4 * n) 4 states, place) refl))
