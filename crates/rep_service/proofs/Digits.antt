-- Bytes as hexadecimal digits.
use Rattle.std.proofs.Common.{◌≡◌, ℕ, ◌*◌, List, [], ◌∷◌, length, arith}
use Rattle.hex.specs.Hex.{encode_with, encode_lower, lower_digits}

with_fit : (t bytes : List ℕ) → length (encode_with t bytes) ≡ 2 * length bytes
unfolding encode_with
with_fit t [] = omega arith
with_fit t (b ∷ bytes) = omega (arith, with_fit t bytes)

-- two digits for each byte
pub digits_fit : (bytes : List ℕ) → length (encode_lower bytes) ≡ 2 * length bytes
digits_fit bytes = with_fit lower_digits bytes
