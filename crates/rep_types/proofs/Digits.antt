-- How a number is read digit by digit.
use Rattle.std.proofs.Common.{◌≡◌, ℕ, ◌+◌, ◌*◌, ◌^◌, ◌<◌, ◌≤◌, Bool, true, false, ltb, List, [], ◌∷◌, length, get_or, take, Some, None, refl, arith}
use Rattle.std.specs.Prelude.{◌&&◌}
use Rattle.std.specs.List.{list_all}
use Rattle.std.specs.Option.{option_and_then}
use Rattle.std.specs.Char.{digit_value, is_digit}
use Rattle.std.specs.Str.Parse.{digits_value, IsNumeral, AllDigits}
use Rattle.std.proofs.lemmas.Bool.{ltb-true, lt-ltb, le-ltb}
use Rattle.std.proofs.lemmas.List.{take_all}
use Rattle.std.proofs.lemmas.List.Folds.{list_all_at, list_all_more}
use Rattle.std.proofs.lemmas.Int.Digits.{digits_value_more}
use Rattle.std.proofs.lemmas.Str.Parse.{digits_value-take-le}
use Rattle.rep_types.specs.Numbers.{given, number_in}

-- whether each byte is a decimal digit
abbrev pub are_digits : List ℕ → Bool
are_digits word = list_all (λ (c : ℕ). is_digit c 10) word

-- and false is false
and-false : (b : Bool) → (b && false) ≡ false
and-false true = refl
and-false false = refl

-- no number: no digit at all
pub no_number-empty : (limit : ℕ) (word : List ℕ) → length word ≡ 0 → number_in limit word ≡ None
unfolding number_in
no_number-empty limit word e = rw e refl

-- a byte that is no digit
pub no_number-at : (limit : ℕ) (word : List ℕ) (i : ℕ) → i < length word → 10 ≤ digit_value (get_or word i 0) → number_in limit word ≡ None
unfolding number_in
no_number-at limit word i within large =
    let e : are_digits word ≡ false = list_all_at (λ (c : ℕ). is_digit c 10) word i 0 within (le-ltb _ _ large) in
    rw (e, and-false (ltb 0 (length word))) refl

-- what was read of the first i bytes
pub record ReadsFirst (word : List ℕ) (i n : ℕ) : Type 0 where
  pub digits : are_digits (take i word) ≡ true
  pub value : n ≡ digits_value 10 (take i word)
  pub small : n < 2 ^ 64

-- digits that already write too large a number
pub no_number-large : (word : List ℕ) (i n : ℕ) → i < length word → ReadsFirst word i n → 2 ^ 64 ≤ n * 10 + digit_value (get_or word i 0) → number_in (2 ^ 64) word ≡ None
unfolding number_in
no_number-large word i n within h large =
    let le : 2 ^ 64 ≤ digits_value 10 word = omega (arith, h.value, digits_value_more 10 word i within, digits_value-take-le 10 word (i + 1) (omega arith)) in
    rw (le-ltb (digits_value 10 word) (2 ^ 64) le, and-false (ltb 0 (length word) && are_digits word)) refl

-- one digit more
pub reads_more : (word : List ℕ) (i n : ℕ) → i < length word → digit_value (get_or word i 0) < 10 → n * 10 + digit_value (get_or word i 0) < 2 ^ 64
    → ReadsFirst word i n → ReadsFirst word (i + 1) (n * 10 + digit_value (get_or word i 0))
reads_more word i n within digit small h = record {
  digits = rw (list_all_more (λ (c : ℕ). is_digit c 10) word i 0 within, h.digits, lt-ltb _ _ digit) refl;
  value = rw (digits_value_more 10 word i within, ← h.value) refl;
  small = small;
}

-- the number, where no digit is left
pub reads_all : (word : List ℕ) (i n : ℕ) → 0 < length word → length word ≤ i → ReadsFirst word i n → number_in (2 ^ 64) word ≡ Some n
unfolding number_in
reads_all word i n some all h =
    let e : take i word ≡ word = take_all i word all in
    let digits : are_digits word ≡ true = rw e at h.digits in
    let value : n ≡ digits_value 10 word = rw e at h.value in
    rw (lt-ltb 0 (length word) some, digits, ← value, lt-ltb n (2 ^ 64) h.small) refl

-- digits all pass the test
digits_all : (word : List ℕ) → AllDigits 10 word → are_digits word ≡ true
digits_all [] h = refl
digits_all (c ∷ cs) h = rw (lt-ltb (digit_value c) 10 h.0, digits_all cs h.1) refl

-- digits of a number below the limit are read as it
pub number_of : (limit : ℕ) (word : List ℕ) (n : ℕ) → IsNumeral 10 word → digits_value 10 word ≡ n → n < limit → number_in limit word ≡ Some n
unfolding number_in
number_of limit word n digits value small = rw (lt-ltb 0 (length word) digits.0, digits_all word digits.1, value, lt-ltb n limit small) refl

-- the same of any two tests of which one follows from the other
below_step : (a larger : Bool) (v limit : ℕ) (x : Bool) → ltb v limit ≡ x → (x ≡ true → larger ≡ true)
    → given (a && x) v ≡ option_and_then (λ n. given (ltb n limit) n) (given (a && larger) v)
below_step false larger v limit x e h = refl
below_step true true v limit x e h = rw e refl
below_step true false v limit true e h = absurd (let q : false ≡ true = h refl in cc)
below_step true false v limit false e h = refl

-- a number below a limit is one below a larger limit that is below this one too
pub number_below : (limit larger : ℕ) (word : List ℕ) → limit ≤ larger → number_in limit word ≡ option_and_then (λ n. given (ltb n limit) n) (number_in larger word)
unfolding number_in
number_below limit larger word le =
    let v = digits_value 10 word in
    below_step (ltb 0 (length word) && are_digits word) (ltb v larger) v limit (ltb v limit) refl (λ e. lt-ltb v larger (omega (arith, ltb-true v limit e)))
