-- Numbers below a smaller limit, and a value of which 63 bytes are kept.
use Rattle.std.proofs.Common.{◌≡◌, ℕ, ◌<◌, ◌^◌, leb, ltb, Bool, List, length, take, Some, refl, arith, inl, inr}
use Rattle.std.specs.Option.{option_and_then}
use Rattle.std.proofs.lemmas.Bool.{cases_lt, lt-ltb, le-ltb, le-leb, lt-leb}
use Rattle.std.proofs.lemmas.List.{take_all, length-take}
use Rattle.rep_types.specs.declared.key.Key.{Key}
use Rattle.rep_types.specs.declared.value.Write.{Write}
use Rattle.rep_types.proofs.Digits.{number_below}
use Rattle.rep_record.specs.Reading.{given, number_in}
use Rattle.rep_record.specs.Drafts.{drafted_write}

-- a number of 32 bits, by one of 64
pub number_32 : (word : List ℕ) → number_in (2 ^ 32) word ≡ option_and_then (λ n. given (ltb n (2 ^ 32)) n) (number_in (2 ^ 64) word)
number_32 word = number_below (2 ^ 32) (2 ^ 64) word (omega arith)

-- a number of 8 bits, by one of 64
pub number_8 : (word : List ℕ) → number_in (2 ^ 8) word ≡ option_and_then (λ n. given (ltb n (2 ^ 8)) n) (number_in (2 ^ 64) word)
number_8 word = number_below (2 ^ 8) (2 ^ 64) word (omega arith)

-- a put whose value is made of the bytes that were kept
pub put_kept : (key : Key) (bytes : List ℕ) → ◌≡◌ {A = Write × Bool} (record { key = key; value = given (leb (length (take 63 bytes)) 62) (take 63 bytes) }, ltb 62 (length (take 63 bytes)))
    (drafted_write (record { key = key; value = Some bytes }))
put_kept key bytes =
    elim (cases_lt 62 (length bytes)) [
      | inl lt ↦
          let kept : 62 < length (take 63 bytes) = omega (arith, length-take 63 bytes) in
          rw (lt-ltb 62 (length bytes) lt, lt-leb (length (take 63 bytes)) 62 kept, lt-ltb 62 (length (take 63 bytes)) kept) refl
      | inr le ↦ rw (take_all 63 bytes (omega arith), le-ltb 62 (length bytes) le, le-leb (length bytes) 62 le) refl
    ]
