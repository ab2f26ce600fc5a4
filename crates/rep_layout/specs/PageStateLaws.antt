-- The law of the states of pages as bytes.
use Rattle.std.proofs.Common.{◌≡◌, ℕ, zero, suc, ◌*◌, ◌/◌, ◌%◌, ◌≤◌, List, [], ◌∷◌, length, take, drop, Some, refl, arith}
use Rattle.std.specs.List.{flat_map}
use Rattle.std.proofs.lemmas.List.Concat.{flat_map-cons}
use Rattle.rep_forms.specs.Forms.{IsForm}
use Rattle.rep_forms.specs.FormLaws.{forms, named_is_form, all_of}
use Rattle.rep_layout.specs.declared.page_state.PageState.{PageState}
use Rattle.rep_layout.specs.declared.page_state.Four.{Four}
use Rattle.rep_layout.specs.declared.page_state.TheConstants.{STATES}
use Rattle.rep_layout.specs.PageStates.{state_code, state_of, four_byte, four_of, four_fields, four_form, list_of, fours, AreStates, states_fields, states_form}

-- codes are at most 2, and tell the state
code_small : (state : PageState) → state_code state ≤ 2
code_small state = grind arith

code_tells : (state : PageState) → state_of (state_code state) ≡ Some state
code_tells state = grind arith

-- the bits of a byte of four
byte_tells : (f : Four) → four_of (four_byte f) ≡ Some f
byte_tells f =
    let first : four_byte f % 4 ≡ state_code f.first = omega (arith, code_small) in
    let second : four_byte f / 4 % 4 ≡ state_code f.second = omega (arith, code_small) in
    let third : four_byte f / 16 % 4 ≡ state_code f.third = omega (arith, code_small) in
    let fourth : four_byte f / 64 ≡ state_code f.fourth = omega (arith, code_small) in
    simp (first, second, third, fourth, code_tells)

pub four_is_form : IsForm four_form
four_is_form =
    named_is_form four_fields _ _ (search forms)
    (λ f h. (omega (arith, code_small), byte_tells f)) (λ f h. refl)

-- so many fours
length-fours : (n : ℕ) (states : List PageState) → length (fours n states) ≡ n
unfolding fours
length-fours zero states = refl
length-fours (suc n) states = grind (arith, length-fours n (drop 4 states))

-- the pages of their fours
pages_again : (n : ℕ) (states : List PageState) → length states ≤ 4 * n → take (length states) (flat_map list_of (fours n states)) ≡ states
unfolding fours
pages_again zero [] h = refl
pages_again zero (a ∷ states) h = absurd (omega (arith, h))
pages_again (suc n) [] h = refl
pages_again (suc n) (a ∷ []) h = refl
pages_again (suc n) (a ∷ b ∷ []) h = refl
pages_again (suc n) (a ∷ b ∷ c ∷ []) h = refl
pages_again (suc n) (a ∷ b ∷ c ∷ d ∷ states) h = grind (arith, flat_map-cons, pages_again n states)

states_fit : (n : ℕ) (states : List PageState) → AreStates n states → (states_fields n).Fits states
states_fit n states h = (
  record { size = length-fours STATES states; few = omega arith; each = all_of four_form.Fits (λ f. tt) (fours STATES states) },
  rw (← h.size, pages_again STATES states (omega (arith, h.size, h.few))) refl,
)

pub states_is_form : (n : ℕ) → IsForm (states_form n)
states_is_form n =
    named_is_form (states_fields n) _ _ (search (forms, four_is_form))
    (states_fit n) (λ states h. refl)
