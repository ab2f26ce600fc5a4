-- What a line asks for that begins with a digit, and what a line asks for of which the front is left.
use Rattle.std.proofs.Common.{◌≡◌, ℕ, ◌+◌, ◌-◌, ◌<◌, ◌≤◌, ◌^◌, ◌⊎◌, inl, inr, Bool, true, false, List, [], ◌∷◌, ◌++◌, length, take, drop, Option, None, Some, Result, Ok, Err, refl, sym, ap, ◌∙◌, arith, subst}
use Rattle.std.specs.Prelude.{nat_lt, ◌==◌, ◌||◌, codes, if◌then◌else◌}
use Rattle.std.specs.Fmt.{decimal}
use Rattle.std.specs.Char.{digit_value}
use Rattle.std.proofs.lemmas.List.{take_all, take-take, length-take}
use Rattle.std.proofs.lemmas.Bool.{lt-ltb, le-ltb, ltb-true, ltb-false, eqb-true}
use Rattle.std.proofs.lemmas.Fmt.{decimal_is_IsNumeral, length-decimal-le}
use Rattle.std.specs.Str.Parse.{AllDigits}
use Rattle.rep_types.proofs.Digits.{number_of}
use Rattle.rep_types.specs.declared.item.Item.{Item}
use Rattle.rep_types.specs.declared.key.Key.{Key}
use Rattle.rep_types.specs.declared.refusal.Refusal.{Refusal}
use Rattle.rep_record.specs.Words.{words, is_blank, cut}
use Rattle.rep_record.specs.Reading.{number_in, is_next, some_each, key_in, order_line}
use Rattle.rep_record.specs.Published.{published}
use Rattle.rep_requests.specs.Requests.{Requested, Published, Broken, begins_with_digit, seqno_in, published_as, numbered_by, numbered, rows_requested, sum_at, sum_requested, transfer_requested, item_requested, command_in, requested}
use Rattle.rep_requests.specs.Laws.{IsItemLine}
use Rattle.rep_requests.proofs.Spaces.{HasNoSpace, cut_at_space, cut_nowhere, IsCut, cut_or_none, front_none, space_behind, space_after, front_at}

-- ---- a line that begins with a digit is an item, or ends the node

by_seqno : (number : ℕ) (line text : List ℕ) (o : Option ℕ) → requested number line ≡ published_as o text → IsItemLine number line ⊎ (requested number line ≡ Broken)
by_seqno number line text None is = inr is
by_seqno number line text (Some n) is = inl (record { seqno = n; text = text; is = is })

by_parts : (number : ℕ) (line : List ℕ) (o : Option (List ℕ × List ℕ)) → requested number line ≡ numbered_by o → IsItemLine number line ⊎ (requested number line ≡ Broken)
by_parts number line None is = inr is
by_parts number line (Some parts) is = by_seqno number line parts.1 (seqno_in parts.0) is

pub item_or_broken : (number : ℕ) (line : List ℕ) → begins_with_digit line ≡ true → IsItemLine number line ⊎ (requested number line ≡ Broken)
item_or_broken number line digit = by_parts number line (cut 32 line) (rw digit refl)

-- ---- any other line is no item of an order that others write to

abbrev pub is_published : Requested → Bool
is_published (Published seqno i) = true
is_published a = false

neither : (t : Bool) (a b : Requested) → is_published a ≡ false → is_published b ≡ false → is_published (if t then a else b) ≡ false
neither true a b p q = p
neither false a b p q = q

no_read_by : (number : ℕ) (o : Option (List Key)) → is_published (rows_requested number o) ≡ false
no_read_by number None = refl
no_read_by number (Some keys) = neither (nat_lt 16 (length keys)) _ _ refl refl

no_sum_by : (number : ℕ) (o : Option ℕ) → is_published (sum_at number o) ≡ false
no_sum_by number None = refl
no_sum_by number (Some position) = refl

no_sum : (number : ℕ) (words : List (List ℕ)) → is_published (sum_requested number words) ≡ false
no_sum number [] = refl
no_sum number (word ∷ []) = no_sum_by number (number_in (2 ^ 64) word)
no_sum number (word ∷ more ∷ words) = refl

no_donate : (number : ℕ) (words : List (List ℕ)) → is_published (transfer_requested number words) ≡ false
no_donate number [] = refl
no_donate number (have ∷ []) = refl
no_donate number (have ∷ out ∷ []) = refl
no_donate number (have ∷ out ∷ more ∷ words) = refl

no_stated : (r : Result Item Refusal) → is_published (item_requested r) ≡ false
no_stated (Ok i) = refl
no_stated (Err refusal) = refl

no_command : (number : ℕ) (line : List ℕ) (words : List (List ℕ)) → is_published (command_in number line words) ≡ false
no_command number line words =
    neither (is_next (codes "item") words || is_next (codes "window") words) _ _ (no_stated (order_line number line))
    (neither (is_next (codes "read") words) _ _ (no_read_by number (some_each key_in (drop 1 words)))
    (neither (is_next (codes "sum") words) _ _ (no_sum number (drop 1 words))
    (neither (is_next (codes "state") words) _ _ (neither (nat_lt 0 (length (drop 1 words))) _ _ refl refl)
    (neither (is_next (codes "limits") words) _ _ (neither (nat_lt 0 (length (drop 1 words))) _ _ refl refl)
    (neither (is_next (codes "counters") words) _ _ (neither (nat_lt 0 (length (drop 1 words))) _ _ refl refl)
    (neither (is_next (codes "donate") words) _ _ (no_donate number (drop 1 words)) refl))))))

pub no_item : (number : ℕ) (line : List ℕ) (seqno : ℕ) (i : Item) → begins_with_digit line ≡ false → requested number line ≡ Published seqno i → ⊥
no_item number line seqno i other is =
    let none : is_published (requested number line) ≡ false =
    rw other (neither (nat_lt 4096 (length line)) _ _ refl (neither (is_blank line) _ _ refl (no_command number line (words line)))) in
    let both : true ≡ false = sym (ap is_published is) ∙ none in
    absurd cc

-- ---- the front of a line

-- so many bytes have no space, so there is no seqno
pub broken_early : (line : List ℕ) → HasNoSpace (take 21 line) → numbered line ≡ Broken
broken_early line early = either (cut_or_none line)
  where
    either : IsCut line ⊎ HasNoSpace line → numbered line ≡ Broken
    either (inr none) = rw (cut_nowhere line none) refl
    either (inl c) =
        let far = space_behind 21 c.front c.back (subst (λ l. HasNoSpace (take 21 l)) c.whole early) in
        let long : 20 < length c.front = omega (arith, far) in
        ap numbered c.whole ∙ rw (cut_at_space c.front c.back c.none, lt-ltb 20 (length c.front) long) refl

-- a text of which so many bytes are left is the same item
text_front : (n : ℕ) (text : List ℕ) (t : Bool) → 4096 < n → nat_lt n (length text) ≡ t → published (take n text) ≡ published text
text_front n text true many longer =
    let past = ltb-true n (length text) longer in
    let one : 4096 < length (take n text) = omega (arith, length-take n text, many, past) in
    let two : 4096 < length text = omega (arith, many, past) in
    rw (lt-ltb 4096 (length (take n text)) one, lt-ltb 4096 (length text) two) refl
text_front n text false many shorter = ap published (take_all n text (ltb-false n (length text) shorter))

cut_front : (line : List ℕ) (c : IsCut line) (t : Bool) → nat_lt 20 (length c.front) ≡ t → numbered (take 8192 line) ≡ numbered line
cut_front line c true long =
    let far = ltb-true 20 (length c.front) long in
    let early : HasNoSpace (take 21 line) = subst (λ l. HasNoSpace (take 21 l)) (sym c.whole) (space_after 21 c.front c.back c.none (omega (arith, far))) in
    let same : take 21 (take 8192 line) ≡ take 21 line = take-take 21 8192 line (omega arith) in
    broken_early (take 8192 line) (subst HasNoSpace (sym same) early) ∙ sym (broken_early line early)
cut_front line c false short =
    let near = ltb-false 20 (length c.front) short in
    let left : 4096 < 8192 - (length c.front + 1) = omega (arith, near) in
    let front : take 8192 line ≡ c.front ++ 32 ∷ take (8192 - (length c.front + 1)) c.back = ap (take 8192) c.whole ∙ front_at 8192 c.front c.back (omega (arith, near)) in
    ap numbered front ∙ ap numbered_by (cut_at_space c.front (take (8192 - (length c.front + 1)) c.back) c.none)
    ∙ same _ _ (seqno_in c.front) (text_front (8192 - (length c.front + 1)) c.back _ left refl)
    ∙ sym (ap numbered c.whole ∙ ap numbered_by (cut_at_space c.front c.back c.none))
  where
    same : (a b : List ℕ) (o : Option ℕ) → published a ≡ published b → published_as o a ≡ published_as o b
    same a b None e = refl
    same a b (Some n) e = ap (Published n) e

numbered_front : (line : List ℕ) → IsCut line ⊎ HasNoSpace line → numbered (take 8192 line) ≡ numbered line
numbered_front line (inl c) = cut_front line c _ refl
numbered_front line (inr none) =
    ap numbered_by (cut_nowhere (take 8192 line) (front_none 8192 line none)) ∙ sym (ap numbered_by (cut_nowhere line none))

begins_front : (line : List ℕ) → begins_with_digit (take 8192 line) ≡ begins_with_digit line
begins_front [] = refl
begins_front (b ∷ bs) = refl

by_tests : (number : ℕ) (line : List ℕ) (digit long : Bool) → begins_with_digit line ≡ digit → nat_lt 4096 (length line) ≡ long → requested number (take 8192 line) ≡ requested number line
by_tests number line true long is size = rw (begins_front line, is) (numbered_front line (cut_or_none line))
by_tests number line false true is size =
    let past = ltb-true 4096 (length line) size in
    let front : 4096 < length (take 8192 line) = omega (arith, length-take 8192 line, past) in
    rw (begins_front line, is, lt-ltb 4096 (length (take 8192 line)) front, size) refl
by_tests number line false false is size =
    let few = ltb-false 4096 (length line) size in
    ap (requested number) (take_all 8192 line (omega (arith, few)))

pub front_says_all : (number : ℕ) (line : List ℕ) → requested number (take 8192 line) ≡ requested number line
front_says_all number line = by_tests number line (begins_with_digit line) (nat_lt 4096 (length line)) refl refl

-- ---- what is written of an item

-- a digit is no space
digit_step : (b : ℕ) (t : Bool) → (b == 32) ≡ t → digit_value b < 10 → (b == 32) ≡ false
digit_step b true e small =
    let same : b ≡ 32 = eqb-true b 32 e in
    let none : digit_value 32 < 10 = subst (λ k. digit_value k < 10) same small in
    absurd (omega (arith, none))
digit_step b false e small = e

digits_none : (ds : List ℕ) → AllDigits 10 ds → HasNoSpace ds
digits_none [] all = tt
digits_none (b ∷ bs) all = (digit_step b (b == 32) refl all.0, digits_none bs all.1)

-- what is written begins with a digit
digit_first : (ds back : List ℕ) → 0 < length ds → AllDigits 10 ds → begins_with_digit (ds ++ back) ≡ true
digit_first [] back some all = absurd (omega (arith, some))
digit_first (b ∷ bs) back some all = lt-ltb (digit_value b) 10 all.0

-- a seqno that is written is read
seqno_again : (n : ℕ) → n < 2 ^ 64 → seqno_in (decimal n) ≡ Some n
seqno_again n small =
    let d = decimal_is_IsNumeral n small in
    let few : length (decimal n) ≤ 20 = length-decimal-le 20 n (omega arith) (omega (arith, small)) small in
    rw (le-ltb 20 (length (decimal n)) few) (number_of (2 ^ 64) (decimal n) n d.0 d.1 small)

pub written_again : (number seqno : ℕ) (text : List ℕ) → seqno < 2 ^ 64 → requested number (decimal seqno ++ 32 ∷ text) ≡ Published seqno (published text)
written_again number seqno text small =
    let d = decimal_is_IsNumeral seqno small in
    rw (digit_first (decimal seqno) (32 ∷ text) d.0.0 d.0.1)
    (ap numbered_by (cut_at_space (decimal seqno) text (digits_none (decimal seqno) d.0.1)) ∙ ap (λ o. published_as o text) (seqno_again seqno small))
