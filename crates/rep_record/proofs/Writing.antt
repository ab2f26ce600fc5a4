-- What writing takes, digit by digit.
use Rattle.std.proofs.Common.{◌≡◌, ℕ, ◌+◌, ◌^◌, ◌<◌, ◌≤◌, List, ◌++◌, length, length-append, ◌∷◌, [], ◌/◌, ◌%◌, append_assoc}
use Rattle.std.specs.Fmt.{decimal}
use Rattle.std.proofs.lemmas.Fmt.{decimal_step}

-- ten and more has one digit more than its tenth
pub decimal_longer : (n : ℕ) → 10 ≤ n → n < 2 ^ 64 → length (decimal n) ≡ length (decimal (n / 10)) + 1
decimal_longer n many small = rw (decimal_step n many small) (length-append _ _)

-- the last digit goes behind those of the tenth
pub digits_pushed : (old mid new : List ℕ) (n : ℕ) → 10 ≤ n → n < 2 ^ 64 →
    mid ≡ old ++ decimal (n / 10) → new ≡ mid ++ (48 + n % 10) ∷ [] → new ≡ old ++ decimal n
digits_pushed old mid new n many small front last = rw (last, front, decimal_step n many small) (append_assoc old (decimal (n / 10)) _)
