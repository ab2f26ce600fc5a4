-- A digest in hexadecimal digits is a text.
use Rattle.std.proofs.Common.{◌≡◌, ℕ, true, List, [], ◌∷◌, Result, Ok, Err, refl, sym, subst}
use Rattle.std.specs.Prelude.{nat_lt, IsAscii, IsOk, OnOk}
use Rattle.std.specs.List.{list_all}
use Rattle.std.specs.Str.{IsUtf8}
use Rattle.std.proofs.lemmas.Bool.{ltb-true, and_parts}
use Rattle.std.proofs.lemmas.Str.{IsUtf8-from_ascii}
use Rattle.std.proofs.lemmas.Str.Ascii.{IsAscii-nil, IsAscii-cons}
use Rattle.hex.specs.Hex.{encode_lower, lower_digits}
use Rattle.hex.proofs.HexLemmas.{IsAscii-encode_with}

ascii_where : (bytes : List ℕ) → list_all (λ b. nat_lt b 128) bytes ≡ true → IsAscii bytes
ascii_where [] e = IsAscii-nil
ascii_where (b ∷ bytes) e =
    let parts = and_parts (nat_lt b 128) (list_all (λ c. nat_lt c 128) bytes) e in
    IsAscii-cons b bytes (ltb-true b 128 parts.0) (ascii_where bytes parts.1)

pub digits_are_text : (bytes : List ℕ) → IsUtf8 (encode_lower bytes)
digits_are_text bytes = IsUtf8-from_ascii (encode_lower bytes) (IsAscii-encode_with lower_digits bytes (ascii_where lower_digits refl))

-- what the digits were written into
pub shown : {E : Type 0} (result : Result (Unit {0}) E) (room bytes : List ℕ) → IsOk result → OnOk result (room ≡ encode_lower bytes) → IsUtf8 room
shown (Ok x) room bytes ok written = subst IsUtf8 (sym written) (digits_are_text bytes)
shown (Err e) room bytes ok written = absurd cc
