-- Numbers in decimal digits, as texts have them.
use Rattle.std.specs.Prelude.{ℕ, Bool, ◌&&◌, nat_lt, if◌then◌else◌, List, length, Option, None, Some}
use Rattle.std.specs.List.{list_all}
use Rattle.std.specs.Char.{is_digit}
use Rattle.std.specs.Str.Parse.{digits_value}

-- a value, where the test holds
abbrev pub given : {A : Type 0} → Bool → A → Option A
given test x = if test then Some x else None

-- whether the word is a number below the limit: one digit or more, zeros in front allowed
abbrev pub is_number : ℕ → List ℕ → Bool
is_number limit word = nat_lt 0 (length word) && list_all (λ (c : ℕ). is_digit c 10) word && nat_lt (digits_value 10 word) limit

-- the number below the limit that the digits write
unfoldable pub number_in : ℕ → List ℕ → Option ℕ
number_in limit word = given (is_number limit word) (digits_value 10 word)
