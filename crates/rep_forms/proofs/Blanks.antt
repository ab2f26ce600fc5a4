-- Bytes that are all zero, by parts.
use Rattle.std.proofs.Common.{◌≡◌, ℕ, zero, suc, ◌+◌, ◌-◌, ◌*◌, ◌<◌, ◌≤◌, ◌^◌, Bool, true, false, eqb, List, [], ◌∷◌, length, take, drop, refl, sym, ap, ◌∙◌, arith, length-drop}
use Rattle.std.specs.Prelude.{◌&&◌, ◌==◌}
use Rattle.std.proofs.lemmas.Bool.Decides.{nat_tests}
use Rattle.std.proofs.lemmas.List.{take-append-drop, drop-drop, take_all}
use Rattle.std.proofs.lemmas.List.Folds.{list_all-append}
use Rattle.std.proofs.Math.Seq.{take-add}
use Rattle.byteorder.specs.Endian.{big_from, big_number}
use Rattle.byteorder.specs.Numbers.{big_from-cons}
use Rattle.rep_forms.specs.Forms.{are_blank}

-- a front, and what is behind it
pub split_blank : (n : ℕ) (bytes : List ℕ) → are_blank bytes ≡ (are_blank (take n bytes) && are_blank (drop n bytes))
split_blank n bytes = ap are_blank (sym (take-append-drop n bytes)) ∙ list_all-append (λ (b : ℕ). b == 0) (take n bytes) (drop n bytes)

-- a front of twice as many
pub pair_blank : (n : ℕ) (bytes : List ℕ) → are_blank (take (n + n) bytes) ≡ (are_blank (take n bytes) && are_blank (take n (drop n bytes)))
pair_blank n bytes = ap are_blank (take-add n n bytes) ∙ list_all-append (λ (b : ℕ). b == 0) (take n bytes) (take n (drop n bytes))

-- what stands in both ends is looked at twice
both_ends : (front middle back : Bool) → ((front && middle) && (middle && back)) ≡ ((front && middle) && back)
both_ends true true back = refl
both_ends true false back = refl
both_ends false middle back = refl

-- two ends that cover all
pub ends_blank : (n : ℕ) (bytes : List ℕ) → n ≤ length bytes → length bytes ≤ n + n → (are_blank (take n bytes) && are_blank (take n (drop (length bytes - n) bytes))) ≡ are_blank bytes
ends_blank n bytes h k =
    let m : ℕ = length bytes - n in
    let sum : m + (n - m) ≡ n = omega arith in
    let whole : take n (drop m bytes) ≡ drop m bytes = take_all n (drop m bytes) (omega (arith, length-drop m bytes)) in
    let behind : drop (n - m) (drop m bytes) ≡ drop n bytes = drop-drop (n - m) m bytes ∙ ap (λ (i : ℕ). drop i bytes) sum in
    let front : are_blank (take n bytes) ≡ (are_blank (take m bytes) && are_blank (take (n - m) (drop m bytes))) =
    ap (λ (i : ℕ). are_blank (take i bytes)) (sym sum) ∙ ap are_blank (take-add m (n - m) bytes) ∙ list_all-append (λ (b : ℕ). b == 0) (take m bytes) (take (n - m) (drop m bytes)) in
    let back : are_blank (drop m bytes) ≡ (are_blank (take (n - m) (drop m bytes)) && are_blank (drop n bytes)) =
    split_blank (n - m) (drop m bytes) ∙ ap (λ (rest : List ℕ). are_blank (take (n - m) (drop m bytes)) && are_blank rest) behind in
    rw (split_blank n bytes, whole, front, back) (both_ends (are_blank (take m bytes)) (are_blank (take (n - m) (drop m bytes))) (are_blank (drop n bytes)))

-- a digit and the digits behind it
digit_blank : (x p r : ℕ) → 0 < p → eqb (x * p + r) 0 ≡ (eqb x 0 && eqb r 0)
digit_blank zero p r h = ap (λ (n : ℕ). eqb n 0) (omega arith)
digit_blank (suc x) p r h = grind (arith, nat_tests)

power : (n : ℕ) → 0 < 256 ^ n
power zero = omega arith
power (suc n) = omega (arith, power n)

-- a number of so many bytes is zero where they are
number_blank : (n : ℕ) (bytes : List ℕ) → n ≤ length bytes → eqb (big_from 0 n bytes) 0 ≡ are_blank (take n bytes)
number_blank zero bytes h = refl
number_blank (suc n) [] h = absurd (omega arith)
number_blank (suc n) (b ∷ bytes) h =
    ap (λ (r : ℕ). eqb (b * 256 ^ n + r) 0) (big_from-cons 0 n b bytes) ∙ digit_blank b (256 ^ n) (big_from 0 n bytes) (power n) ∙ ap (λ (rest : Bool). eqb b 0 && rest) (number_blank n bytes (omega arith))

pub word_blank : (bytes : List ℕ) → 8 ≤ length bytes → eqb (big_number 8 bytes) 0 ≡ are_blank (take 8 bytes)
word_blank bytes h = number_blank 8 bytes h
