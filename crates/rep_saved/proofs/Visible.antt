-- Texts without line feeds, returns or blanks: what a line has as its value.
use Rattle.std.proofs.Common.{◌≡◌, ℕ, ◌+◌, ◌-◌, ◌^◌, ◌%◌, ◌<◌, Bool, true, false, ltb, eqb, List, [], ◌∷◌, ◌++◌, append_assoc, length, length-append, take, get_or, refl, sym, ap, subst, ◌∙◌, arith}
use Rattle.std.specs.Prelude.{ℤ, pos, negsuc, IsTrue, if◌then◌else◌}
use Rattle.std.specs.List.{All}
use Rattle.std.specs.Fmt.{decimal, signed_decimal}
use Rattle.std.proofs.lemmas.Bool.{ltb-true, eqb-true, ne_eqb}
use Rattle.std.proofs.lemmas.Fmt.{decimal_by_steps, decimal_nonempty}
use Rattle.std.proofs.lemmas.List.{get_or_push}
use Rattle.std.proofs.lemmas.List.Elements.{All-append, All-head, All-cons, All-nil}
use Rattle.uuid.specs.Text.{lower, hyphen, hyphenated_text, hex_digit, nibble, digit_place, is_hyphen_place}
use Rattle.uuid.proofs.TextLemmas.{by_index_length, by_index_at}
use Rattle.rep_types.specs.Gtids.{is_seqno}
use Rattle.rep_saved.specs.Lines.{is_blank, from_first, up_to_last, without_return}
use Rattle.rep_saved.specs.Saved.{bit_text}
use Rattle.rep_saved.proofs.Trimmed.{by_last, other_last}

-- there is a byte, and each is above a space
pub record Visible (text : List ℕ) : Type 0 where
  pub some : 0 < length text
  pub above : All (λ b. 32 < b) text

-- ---- what is written is visible

one : (b : ℕ) → 32 < b → All (λ c. 32 < c) (b ∷ [])
one b h = All-cons (λ c. 32 < c) b [] h (All-nil (λ c. 32 < c))

digit_above : (small : Bool) (d : ℕ) → ltb d 10 ≡ small → 32 < (if small then 48 + d else lower + d - 10)
digit_above true d e = omega arith
digit_above false d e = omega arith

place_above : (mark : Bool) (d : ℕ) → 32 < (if mark then hyphen else hex_digit lower d)
place_above true d = omega arith
place_above false d = digit_above (ltb d 10) d refl

pub uuid_visible : (uuid : List ℕ) → Visible (hyphenated_text lower uuid)
uuid_visible uuid =
    let place : ℕ → ℕ = λ k. if is_hyphen_place k then hyphen else hex_digit lower (nibble uuid (digit_place k)) in
    let size : length (hyphenated_text lower uuid) ≡ 36 = by_index_length 36 place in
    record {
      some = omega (arith, size);
      above = λ k d h. subst (λ b. 32 < b) (sym (by_index_at 36 place k d (omega (arith, h, size)))) (place_above (is_hyphen_place k) (nibble uuid (digit_place k)));
    }

decimal_above : (n : ℕ) → n < 2 ^ 64 → All (λ b. 32 < b) (decimal n)
decimal_above n small =
    decimal_by_steps (λ k ds. All (λ b. 32 < b) ds) (λ k h. one (48 + k) (omega arith))
    (λ k ds h front. All-append (λ b. 32 < b) ds ((48 + k % 10) ∷ []) front (one (48 + k % 10) (omega arith))) n small

pub seqno_visible : (seqno : ℤ) → IsTrue (is_seqno seqno) → Visible (signed_decimal seqno)
seqno_visible (pos n) is =
    let small : n < 2 ^ 64 = omega (arith, ltb-true n (2 ^ 63) is) in
    record { some = decimal_nonempty n small; above = decimal_above n small }
seqno_visible (negsuc n) is =
    let none : n ≡ 0 = eqb-true n 0 is in
    rw none (record { some = omega arith; above = All-cons (λ b. 32 < b) 45 (decimal 1) (omega arith) (decimal_above 1 (omega arith)) })

pub bit_visible : (bit : Bool) → Visible (bit_text bit)
bit_visible true = record { some = omega arith; above = one 49 (omega arith) }
bit_visible false = record { some = omega arith; above = one 48 (omega arith) }

-- ---- what is visible stays as it is

-- it has no line feed
pub no_feed : (text : List ℕ) → Visible text → All (λ b. eqb b 10 ≡ false) text
no_feed text v k d h = let above : 32 < get_or text k d = v.above k d h in ne_eqb (get_or text k d) 10 (λ e. omega arith)

not_blank : (b : ℕ) → 32 < b → is_blank b ≡ false
not_blank b h = rw (ne_eqb b 32 (λ e. omega arith), ne_eqb b 9 (λ e. omega arith)) refl

-- no blank stands in front of it
pub front_stays : (text : List ℕ) → Visible text → from_first text ≡ text
front_stays [] v = refl
front_stays (b ∷ bs) v = rw (not_blank b (All-head (λ c. 32 < c) b bs v.above)) refl

-- behind others, by its last byte
last_above : (text : List ℕ) → Visible text → 32 < get_or text (length text - 1) 0
last_above text v = v.above (length text - 1) 0 (omega (arith, v.some))

by_end : (before text : List ℕ) → Visible text → before ++ text ≡ (before ++ take (length text - 1) text) ++ get_or text (length text - 1) 0 ∷ []
by_end before text v =
    ap (λ t. before ++ t) (by_last text v.some) ∙ sym (append_assoc before (take (length text - 1) text) (get_or text (length text - 1) 0 ∷ []))

-- no blank stands at the end
pub end_stays : (before text : List ℕ) → Visible text → up_to_last (before ++ text) ≡ before ++ text
end_stays before text v =
    let whole = by_end before text v in
    ap up_to_last whole ∙ other_last (before ++ take (length text - 1) text) (get_or text (length text - 1) 0) (not_blank (get_or text (length text - 1) 0) (last_above text v)) ∙ sym whole

-- nor a carriage return
no_return_by : (xs : List ℕ) (b : ℕ) → 32 < b → without_return (xs ++ b ∷ []) ≡ xs ++ b ∷ []
no_return_by xs b h =
    let at : length (xs ++ b ∷ []) - 1 ≡ length xs = omega (arith, length-append xs (b ∷ [])) in
    let last : get_or (xs ++ b ∷ []) (length (xs ++ b ∷ []) - 1) 0 ≡ b = ap (λ i. get_or (xs ++ b ∷ []) i 0) at ∙ get_or_push xs b 0 (length xs) refl in
    rw (last, ne_eqb b 13 (λ e. omega arith)) refl

pub no_return : (before text : List ℕ) → Visible text → without_return (before ++ text) ≡ before ++ text
no_return before text v =
    let whole = by_end before text v in
    ap without_return whole ∙ no_return_by (before ++ take (length text - 1) text) (get_or text (length text - 1) 0) (last_above text v) ∙ sym whole
