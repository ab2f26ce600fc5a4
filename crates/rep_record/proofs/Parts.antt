-- A line, its words and its pieces are read as the grammar says.
use Rattle.std.proofs.Common.{◌≡◌, ℕ, ◌+◌, ◌*◌, ◌^◌, ◌<◌, ◌≤◌, Bool, true, false, cond, eqb, ltb, List, [], ◌∷◌, ◌++◌, length, get_or, take, drop, Option, Some, None, refl, sym, ap, subst, ◌∙◌, append_assoc, add-one, arith, inl, inr}
use Rattle.std.specs.Prelude.{◌&&◌, codes}
use Rattle.std.specs.List.{AllZip, list_all, position, position_or_len}
use Rattle.std.specs.Option.{option_map}
use Rattle.std.specs.Char.{digit_value, is_digit}
use Rattle.std.specs.Str.{bytes_eq}
use Rattle.std.specs.Str.Parse.{digits_value, AllDigits}
use Rattle.std.proofs.Math.Seq.{split_at}
use Rattle.std.proofs.lemmas.Bool.{ltb-true, lt-ltb, le-ltb, ne_eqb, eqb-true, eq-eqb}
use Rattle.std.proofs.lemmas.List.{length-append, nil_from_length, take_at, drop_at}
use Rattle.std.proofs.lemmas.List.Quantifiers.{position-Some}
use Rattle.std.proofs.lemmas.Option.{same_Some}
use Rattle.std.proofs.lemmas.Slice.Eq.{bytes_eq-Decides}
use Rattle.rep_types.specs.declared.key.Key.{Key}
use Rattle.rep_types.specs.declared.value.Write.{Write}
use Rattle.rep_types.specs.declared.item.Item.{Item}
use Rattle.rep_types.specs.declared.item.Item.TheVariants.{WriteSet, SetWindow as OfSetWindow}
use Rattle.rep_types.specs.declared.item.SetWindow.{SetWindow}
use Rattle.rep_types.specs.Transactions.{Transaction, transaction}
use Rattle.rep_types.specs.Settings.{Setting, setting}
use Rattle.rep_types.proofs.Digits.{number_of}
use Rattle.rep_forms.specs.Options.{◌>>=◌}
use Rattle.rep_forms.specs.FormLaws.{conjuncts}
use Rattle.rep_record.specs.Words.{words, cut}
use Rattle.rep_record.specs.Grammar.{IsNumber, ◌⊗◌, After, Optional, One, Nothing, More, IsKey, IsHex, IsWrite, IsLabel, AreLabels, AreReads, AreWrites, IsTail, IsItemLine, IsChange, IsChangeLine, IsOrderLine, IsSetting, IsParamsLine}
use Rattle.rep_record.proofs.Lines.{IsFree, free_append}
use Rattle.rep_record.specs.Reading.{is_number, number_in, pair_at, is_next, after, optional, behind, next, nothing_in, each, some_each, key_in, label_in, byte_in, hex_in, put_in, deleted_in, delete, write_by, write_in, labels_in, keys_in, reads_in, writes_in, tail_in, change_in, setting_in, item_form, change_form, order_form, params_form}

-- ---- what it means to read as the grammar says

-- What is read, if anything is, has this property.
pub record Holds {A : Type 0} (P : A → Type 0) (o : Option A) : Type 0 where
  pub of : (x : A) → o ≡ Some x → P x

just : {A : Type 0} {P : A → Type 0} {x : A} → P x → Holds P (Some x)
just {P = P} {x} h = record { of = λ y e. subst P (same_Some x y e) h }

nothing : {A : Type 0} {P : A → Type 0} → Holds P None
nothing = record { of = λ x e. absurd cc }

-- what is made of it
onward : {A B : Type 0} {P : A → Type 0} {Q : B → Type 0} {o : Option A} {f : A → Option B} → Holds P o → ((x : A) → P x → Holds Q (f x)) → Holds Q (o >>= f)
onward {o = None} h k = record { of = λ y e. absurd cc }
onward {o = Some x} h k = record { of = (k x (h.of x refl)).of }

-- what follows from it
weaken : {A : Type 0} {P Q : A → Type 0} {o : Option A} → Holds P o → ((x : A) → P x → Q x) → Holds Q o
weaken h k = record { of = λ x e. k x (h.of x e) }

-- what it is a part of
mapped : {A B : Type 0} {P : B → Type 0} (f : A → B) (o : Option A) → Holds (λ x. P (f x)) o → Holds P (option_map f o)
mapped f None h = nothing
mapped f (Some x) h = just (h.of x refl)

-- what stands behind a test
tested : {A : Type 0} {P : A → Type 0} {o q : Option A} (b : Bool) → (b ≡ true → Holds P o) → (b ≡ false → Holds P q) → Holds P (cond b o q)
tested true h k = h refl
tested false h k = k refl

-- Of each text, or of each list of words, just that is read which it says.
pub record Means {W A : Type 0} (read : W → Option A) (Says : W → A → Type 0) : Type 0 where
  pub found : (w : W) → Holds (Says w) (read w)
  pub again : (w : W) (x : A) → Says w x → read w ≡ Some x

-- words
abbrev Lines : Type 0
Lines = List (List ℕ)

-- a part of them stands in front of the rest
abbrev Stands : {A : Type 0} → (Lines → A → Type 0) → Lines → A × Lines → Type 0
Stands Says whole x = (part : Lines) × (whole ≡ part ++ x.1) × Says part x.0

-- The same of what is read from the front of some words, where those behind it are of a kind.
record Fronts {A : Type 0} (read : Lines → Option (A × Lines)) (Says : Lines → A → Type 0) (Rest : Lines → Type 0) : Type 0 where
  found : (whole : Lines) → Holds (Stands Says whole) (read whole)
  again : (part rest : Lines) (x : A) → Rest rest → Says part x → read (part ++ rest) ≡ Some (x, rest)

-- what other values stand for
via_means : {W A B : Type 0} {f : W → Option A} {Says : W → A → Type 0} (to : A → B) (from : B → A) → ((x : A) → from (to x) ≡ x) → ((y : B) → to (from y) ≡ y) → Means f Says
    → Means (λ w. f w >>= λ x. Some (to x)) (λ w y. Says w (from y))
via_means {Says = Says} to from there back m = record {
  found = λ w. onward (m.found w) (λ x h. just (subst (Says w) (sym (there x)) h));
  again = λ w y h. rw (m.again w (from y) h, back y) refl;
}

-- ---- numbers

-- where each byte passes the test, all are digits
all_digits : (word : List ℕ) → list_all (λ (c : ℕ). is_digit c 10) word ≡ true → AllDigits 10 word
all_digits [] e = tt
all_digits (c ∷ cs) e =
    let p = conjuncts (is_digit c 10) (list_all (λ (d : ℕ). is_digit d 10) cs) e in
    (ltb-true (digit_value c) 10 p.0, all_digits cs p.1)

number_means : (limit : ℕ) → Means (number_in limit) (IsNumber limit)
unfolding number_in
number_means limit = record {
  found = λ word. tested (is_number limit word) (λ e.
      let p = conjuncts (ltb 0 (length word) && list_all (λ (c : ℕ). is_digit c 10) word) (ltb (digits_value 10 word) limit) e in
      let q = conjuncts (ltb 0 (length word)) (list_all (λ (c : ℕ). is_digit c 10) word) p.0 in
      just (record { digits = (ltb-true 0 (length word) q.0, all_digits word q.1); value = refl; small = ltb-true (digits_value 10 word) limit p.1 })) (λ e. nothing);
  again = λ word n h. number_of limit word n h.digits h.value h.small;
}

-- ---- a word cut at a mark

-- digits are no mark
free_digits : (mark : ℕ) (word : List ℕ) → 10 ≤ digit_value mark → AllDigits 10 word → IsFree mark word
free_digits mark [] large h = tt
free_digits mark (c ∷ cs) large h = (ne_eqb c mark (λ e. omega (arith, ap digit_value e, h.0, large)), free_digits mark cs large h.1)

-- the first place of a mark is behind what has none
place_behind : (mark : ℕ) (front back : List ℕ) → IsFree mark front → position_or_len (λ b. eqb b mark) (front ++ mark ∷ back) ≡ length front
place_behind mark [] back h = rw (eq-eqb mark mark refl) refl
place_behind mark (b ∷ bs) back h = rw h.0 (omega (arith, place_behind mark bs back h.1))

-- and the end where there is none
place_nowhere : (mark : ℕ) (word : List ℕ) → IsFree mark word → position_or_len (λ b. eqb b mark) word ≡ length word
place_nowhere mark [] h = refl
place_nowhere mark (b ∷ bs) h = rw h.0 (omega (arith, place_nowhere mark bs h.1))

-- a text is cut at its first mark
cut_again : (mark : ℕ) (front back : List ℕ) → IsFree mark front → cut mark (front ++ mark ∷ back) ≡ Some (front, back)
unfolding cut
cut_again mark front back h =
    let long : ltb (length front) (length (front ++ mark ∷ back)) ≡ true = lt-ltb _ _ (omega (arith, length-append front (mark ∷ back))) in
    let behind_mark : drop (length front + 1) (front ++ mark ∷ back) ≡ back =
    rw (← append_assoc front (mark ∷ []) back) (drop_at (front ++ mark ∷ []) back (length front + 1) (length-append front (mark ∷ []))) in
    rw (place_behind mark front back h, long, take_at front (mark ∷ back) (length front) refl, behind_mark) refl

-- a text without the mark is not cut
cut_nowhere : (mark : ℕ) (word : List ℕ) → IsFree mark word → cut mark word ≡ None
unfolding cut
cut_nowhere mark word h = rw (place_nowhere mark word h, le-ltb (length word) (length word) (omega arith)) refl

-- the parts of a cut, with the mark between them, are the text
cut_whole : (mark : ℕ) (word : List ℕ) → Holds (λ parts. word ≡ parts.0 ++ mark ∷ parts.1) (cut mark word)
unfolding cut
cut_whole mark word = at_place (position (λ b. eqb b mark) word) refl
  where
    at_place : (at : Option ℕ) → position (λ b. eqb b mark) word ≡ at → Holds (λ (parts : List ℕ × List ℕ). word ≡ parts.0 ++ mark ∷ parts.1) (option_map (λ k. (take k word, drop (k + 1) word)) at)
    at_place None is = nothing
    at_place (Some k) is =
        let p = position-Some (λ b. eqb b mark) word k 0 is in
        just (split_at word k 0 p.0 ∙ rw (eqb-true (get_or word k 0) mark p.1, ← add-one k) refl)

-- a pair is cut at its mark
cut_pair : {A B : Type 0} {mark : ℕ} {First : List ℕ → A → Type 0} {Second : List ℕ → B → Type 0} {word : List ℕ} {x : A × B} → (h : (First ⊗ After mark Second) word x) → IsFree mark h.front
    → cut mark word ≡ Some (h.front, h.second.0)
cut_pair {mark = mark} h free = ap (cut mark) (h.joined ∙ ap (λ back. h.front ++ back) h.second.1) ∙ cut_again mark h.front h.second.0 free

pair_means : {A B : Type 0} {f : List ℕ → Option A} {g : List ℕ → Option B} {First : List ℕ → A → Type 0} {Second : List ℕ → B → Type 0} (mark : ℕ)
    → ((word : List ℕ) (x : A) → First word x → IsFree mark word) → Means f First → Means g Second → Means (pair_at mark f g) (First ⊗ After mark Second)
pair_means mark free p q = record {
  found = λ word.
      onward (cut_whole mark word) (λ parts whole. onward (p.found parts.0) (λ x first. onward (q.found parts.1) (λ y second.
      just (record { front = parts.0; back = mark ∷ parts.1; joined = whole; first = first; second = (parts.1, refl, second) }))));
  again = λ word x h. rw (cut_pair h (free h.front x.0 h.first), p.again h.front x.0 h.first, q.again h.second.0 x.1 h.second.2) refl;
}

-- ---- keys and labels

-- a pair of numbers
numbers_mean : (mark n m : ℕ) → 10 ≤ digit_value mark → Means (pair_at mark (number_in n) (number_in m)) (IsNumber n ⊗ After mark (IsNumber m))
numbers_mean mark n m large =
    pair_means mark (λ word x h. free_digits mark word large h.digits.1) (number_means n) (number_means m)

key_means : Means key_in IsKey
unfolding key_in
key_means =
    via_means (λ x. record { table = x.0; row = x.1 }) (λ (key : Key). (key.table, key.row)) (λ x. refl) (λ key. refl) (numbers_mean 47 (2 ^ 8) (2 ^ 32) (omega arith))

label_means : Means label_in IsLabel
unfolding label_in
label_means = numbers_mean 58 (2 ^ 64) (2 ^ 64) (omega arith)

-- a mark other than `/` doesn't stand in a key
key_free : (mark : ℕ) → 10 ≤ digit_value mark → eqb 47 mark ≡ false → (word : List ℕ) (key : Key) → IsKey word key → IsFree mark word
key_free mark large other word key h =
    subst (IsFree mark) (sym (h.joined ∙ ap (λ back. h.front ++ back) h.second.1))
    (free_append mark h.front (47 ∷ h.second.0) (free_digits mark h.front large h.first.digits.1) (other, free_digits mark h.second.0 large h.second.2.digits.1))

-- ---- bytes

-- what is read as bytes is written by these digits
hex_found : (digits : List ℕ) → Holds (IsHex digits) (hex_in digits)
unfolding hex_in byte_in
hex_found [] = just tt
hex_found (high ∷ []) = nothing
hex_found (high ∷ low ∷ digits) = onward digits_found (λ byte one. onward (hex_found digits) (λ bytes more. just (one.0, one.1, one.2, more)))
  where
    digits_found : Holds (λ byte. (digit_value high < 16) × (digit_value low < 16) × (byte ≡ 16 * digit_value high + digit_value low)) (byte_in high low)
    digits_found = tested (is_digit high 16 && is_digit low 16) (λ e.
        let p = conjuncts (is_digit high 16) (is_digit low 16) e in just (ltb-true (digit_value high) 16 p.0, ltb-true (digit_value low) 16 p.1, refl)) (λ e. nothing)

-- digits are read as the bytes that they write
hex_again : (digits bytes : List ℕ) → IsHex digits bytes → hex_in digits ≡ Some bytes
unfolding hex_in byte_in
hex_again [] [] h = refl
hex_again [] (byte ∷ bytes) h = absurd h
hex_again (high ∷ []) bytes h = absurd h
hex_again (high ∷ low ∷ digits) [] h = absurd h
hex_again (high ∷ low ∷ digits) (byte ∷ bytes) h =
    rw (lt-ltb (digit_value high) 16 h.0, lt-ltb (digit_value low) 16 h.1, hex_again digits bytes h.3, ← h.2) refl

-- ---- writes

-- what is read as a write is one, whether the word has an `=` or not
write_found : (word : List ℕ) (parts : Option (List ℕ × List ℕ)) → Holds (λ p. word ≡ p.0 ++ 61 ∷ p.1) parts → Holds (IsWrite word) (write_by parts word)
unfolding put_in deleted_in
write_found word (Some parts) whole =
    onward (key_means.found parts.0) (λ key first. onward (hex_found parts.1) (λ bytes second.
    just (record { front = parts.0; back = 61 ∷ parts.1; joined = whole.of parts refl; first = first; second = (parts.1, refl, second) })))
write_found word None whole =
    mapped delete (deleted_in word) (onward (cut_whole 45 word) (λ parts whole. onward (key_means.found parts.0) (λ key first. tested (eqb (length parts.1) 0) (λ e.
    let none : parts.1 ≡ [] = nil_from_length parts.1 (eqb-true (length parts.1) 0 e) in
    just (parts.0, whole ∙ ap (λ rest. parts.0 ++ 45 ∷ rest) none, first)) (λ e. nothing))))

-- a delete and a put are read as themselves
write_again : (word : List ℕ) (key : Key) (value : Option (List ℕ)) → IsWrite word (record { key = key; value = value }) → write_in word ≡ Some (record { key = key; value = value })
unfolding write_in deleted_in put_in
write_again word key None h =
    let free : IsFree 61 (h.0 ++ 45 ∷ []) = free_append 61 h.0 (45 ∷ []) (key_free 61 (omega arith) refl h.0 key h.2) (refl, tt) in
    let e : cut 61 word ≡ None = ap (cut 61) h.1 ∙ cut_nowhere 61 (h.0 ++ 45 ∷ []) free in
    let f : cut 45 word ≡ Some (h.0, []) = ap (cut 45) h.1 ∙ cut_again 45 h.0 [] (key_free 45 (omega arith) refl h.0 key h.2) in
    rw (e, f, key_means.again h.0 key h.2) refl
write_again word key (Some bytes) h =
    rw (cut_pair h (key_free 61 (omega arith) refl h.front key h.first), key_means.again h.front key h.first, hex_again h.second.0 bytes h.second.2) refl

write_means : Means write_in IsWrite
unfolding write_in
write_means = record {
  found = λ word. write_found word (cut 61 word) (cut_whole 61 word);
  again = λ word write h. write_again word write.key write.value h;
}

-- ---- words

-- the next word is the one that it was compared to
next_is : (text : List ℕ) (words : Lines) → is_next text words ≡ true → words ≡ text ∷ drop 1 words
next_is text [] e = absurd cc
next_is text (word ∷ rest) e = ap (λ w. w ∷ rest) ((bytes_eq-Decides word text).0 e)

-- what stands behind a word
after_means : {A : Type 0} {f : Lines → Option A} {Says : Lines → A → Type 0} (text : List ℕ) → Means f Says → Means (after text f) (After text Says)
after_means text m = record {
  found = λ whole. tested (is_next text whole) (λ e. weaken (m.found (drop 1 whole)) (λ x h. (drop 1 whole, next_is text whole e, h))) (λ e. nothing);
  again = λ whole x h. rw (h.1, (bytes_eq-Decides text text).1 refl) (m.again h.0 x h.2);
}

-- one word
one_found : {A : Type 0} {f : List ℕ → Option A} {Says : List ℕ → A → Type 0} → Means f Says → (whole : Lines) → Holds (Stands (One Says) whole) (next f whole)
one_found m [] = nothing
one_found m (word ∷ rest) = onward (m.found word) (λ x h. just (word ∷ [], refl, (word, refl, h)))

one_fronts : {A : Type 0} {f : List ℕ → Option A} {Says : List ℕ → A → Type 0} → Means f Says → Fronts (next f) (One Says) (λ rest. Unit {0})
one_fronts m = record { found = one_found m; again = λ part rest x any h. rw (h.1, m.again h.0 x h.2) refl }

-- no word
nothing_means : Means nothing_in Nothing
nothing_means = record {
  found = λ whole. tested (eqb (length whole) 0) (λ e. just (nil_from_length whole (eqb-true (length whole) 0 e))) (λ e. nothing);
  again = λ whole said h. rw h refl;
}

-- each word
each_found : {A : Type 0} {f : List ℕ → Option A} {Says : List ℕ → A → Type 0} → Means f Says → (whole : Lines) → Holds (AllZip Says whole) (each f whole)
unfolding each
each_found m [] = just tt
each_found m (word ∷ rest) = onward (m.found word) (λ x h. onward (each_found m rest) (λ xs more. just (h, more)))

each_again : {A : Type 0} {f : List ℕ → Option A} {Says : List ℕ → A → Type 0} → Means f Says → (whole : Lines) (xs : List A) → AllZip Says whole xs → each f whole ≡ Some xs
unfolding each
each_again m [] [] z = refl
each_again m [] (x ∷ xs) z = absurd z
each_again m (word ∷ rest) [] z = absurd z
each_again m (word ∷ rest) (x ∷ xs) z = rw (m.again word x z.0, each_again m rest xs z.1) refl

-- one word or more
more_means : {A : Type 0} {f : List ℕ → Option A} {Says : List ℕ → A → Type 0} → Means f Says → Means (some_each f) (More Says)
more_means m = record {
  found = λ whole. tested (ltb 0 (length whole)) (λ e. weaken (each_found m whole) (λ xs h. (ltb-true 0 (length whole) e, h))) (λ e. nothing);
  again = λ whole xs h. rw (lt-ltb 0 (length whole) h.0) (each_again m whole xs h.1);
}

-- ---- parts

-- a part that may be missing
optional_again : {A : Type 0} {f : Lines → Option (A × Lines)} {Says : Lines → A → Type 0} {Rest : Lines → Type 0} (text : List ℕ) (value : A) → Fronts f Says Rest
    → (part rest : Lines) (x : A) → Rest rest × (is_next text rest ≡ false) → Optional text value Says part x → optional text value f (part ++ rest) ≡ Some (x, rest)
optional_again text value m part rest x other (inl h) = rw (h.0, other.1, h.1) refl
optional_again text value m part rest x other (inr h) = rw (h.1, (bytes_eq-Decides text text).1 refl) (m.again h.0 rest x other.0 h.2)

optional_fronts : {A : Type 0} {f : Lines → Option (A × Lines)} {Says : Lines → A → Type 0} {Rest : Lines → Type 0} (text : List ℕ) (value : A) → Fronts f Says Rest
    → Fronts (optional text value f) (Optional text value Says) (λ rest. Rest rest × (is_next text rest ≡ false))
optional_fronts text value m = record {
  found = λ whole.
      tested (is_next text whole) (λ e. weaken (m.found (drop 1 whole)) (λ x h. (text ∷ h.0, next_is text whole e ∙ ap (λ ws. text ∷ ws) h.1, inr (h.0, refl, h.2))))
      (λ e. just ([], refl, inl (refl, refl)));
  again = optional_again text value m;
}

-- a part, and what stands behind it
behind_means : {A B : Type 0} {f : Lines → Option (A × Lines)} {g : Lines → Option B} {First : Lines → A → Type 0} {Second : Lines → B → Type 0} {Rest : Lines → Type 0}
    → Fronts f First Rest → Means g Second → ((rest : Lines) (y : B) → Second rest y → Rest rest) → Means (behind f g) (First ⊗ Second)
behind_means p q kind = record {
  found = λ whole. onward (p.found whole) (λ x one. onward (q.found x.1) (λ y second. just (record { front = one.0; back = x.1; joined = one.1; first = one.2; second = second })));
  again = λ whole x h. rw (h.joined, p.again h.front h.back x.0 (kind h.back x.1 h.second) h.first, q.again h.back x.1 h.second) refl;
}

-- ---- keys up to the word `w`

keys_found : (whole : Lines) → Holds (Stands (More IsKey) whole) (keys_in whole)
unfolding keys_in
keys_found [] = nothing
keys_found (word ∷ rest) =
    onward (key_means.found word) (λ key first. tested (is_next (codes "w") rest) (λ e. just (word ∷ [], refl, (omega arith, (first, tt))))
    (λ e. onward (keys_found rest) (λ keys more. just (word ∷ more.0, ap (λ ws. word ∷ ws) more.1, (omega arith, (first, more.2.1))))))

-- a key is not the word `w`
key_not_mark : (word : List ℕ) (key : Key) (b : Bool) → IsKey word key → bytes_eq word (codes "w") ≡ b → b ≡ false
key_not_mark word key true h e =
    let size = ap length (sym h.joined ∙ (bytes_eq-Decides word (codes "w")).0 e) in
    absurd (omega (arith, size, length-append h.front h.back, ap length h.second.1, h.first.digits.0, h.second.2.digits.0))
key_not_mark word key false h e = refl

keys_again : (part rest : Lines) (keys : List Key) → is_next (codes "w") rest ≡ true → More IsKey part keys → keys_in (part ++ rest) ≡ Some (keys, rest)
unfolding keys_in
keys_again [] rest keys mark h = absurd (omega (arith, h.0))
keys_again (word ∷ part) rest [] mark h = absurd h.1
keys_again (word ∷ []) rest (key ∷ []) mark h = rw (key_means.again word key h.1.0, mark) refl
keys_again (word ∷ []) rest (key ∷ other ∷ keys) mark h = absurd h.1.1
keys_again (word ∷ second ∷ part) rest (key ∷ []) mark h = absurd h.1.1
keys_again (word ∷ second ∷ part) rest (key ∷ other ∷ keys) mark h =
    let more : keys_in ((second ∷ part) ++ rest) ≡ Some (other ∷ keys, rest) = keys_again (second ∷ part) rest (other ∷ keys) mark (omega arith, h.1.1) in
    rw (key_means.again word key h.1.0, key_not_mark second other (bytes_eq second (codes "w")) h.1.1.0 refl, more) refl

keys_fronts : Fronts keys_in (More IsKey) (λ rest. is_next (codes "w") rest ≡ true)
keys_fronts = record { found = keys_found; again = keys_again }

-- ---- a tail

writes_mean : Means writes_in AreWrites
unfolding writes_in
writes_mean = after_means (codes "w") (more_means write_means)

-- what the words behind the reads begin with
abbrev BeforeWrites : Lines → Type 0
BeforeWrites rest = (is_next (codes "w") rest ≡ true) × (is_next (codes "r") rest ≡ false)

reads_fronts : Fronts reads_in AreReads BeforeWrites
unfolding reads_in
reads_fronts = optional_fronts (codes "r") [] keys_fronts

labels_fronts : Fronts labels_in AreLabels (λ rest. Unit {0} × (is_next (codes "id") rest ≡ false))
unfolding labels_in
labels_fronts = optional_fronts (codes "id") (0, 0) (one_fronts label_means)

-- what begins with `r` or `w` doesn't begin with `id`
no_label : (reads writes : Lines) (keys : List Key) (ws : List Write) → AreReads reads keys → AreWrites writes ws → is_next (codes "id") (reads ++ writes) ≡ false
no_label reads writes keys ws (inl h) w = rw (h.0, w.1) refl
no_label reads writes keys ws (inr h) w = rw h.1 refl

tail_means : Means tail_in IsTail
unfolding tail_in
tail_means =
    let lists = behind_means reads_fronts writes_mean (λ rest ws h. (rw h.1 refl, rw h.1 refl)) in
    let labelled = behind_means labels_fronts lists (λ rest x h. (tt, rw h.joined (no_label h.front h.back x.0 x.1 h.first h.second))) in
    via_means (λ x. transaction x.1.0.0 x.1.0.1 x.0 x.1.1.0 x.1.1.1) (λ (w : Transaction). (w.last_seen, ((w.source, w.trx), (w.reads, w.writes)))) (λ x. refl {a = x}) (λ w. refl {a = w})
    (behind_means (one_fronts (number_means (2 ^ 64))) labelled (λ rest x h. tt))

-- ---- lines

-- what is read of the words of a line
line_means : {A : Type 0} {f : Lines → Option A} {Says : Lines → A → Type 0} → Means f Says → Means (λ (line : List ℕ). f (words line)) (λ line. Says (words line))
line_means m = record { found = λ line. m.found (words line); again = λ line. m.again (words line) }

pub item_means : Means item_form IsItemLine
item_means = line_means (after_means (codes "item") tail_means)

changed_means : Means change_in IsChange
unfolding change_in
changed_means =
    let labelled = behind_means labels_fronts nothing_means (λ rest x h. (tt, rw h refl)) in
    via_means (λ (x : ℕ × ((ℕ × ℕ) × Unit {0})). record { size = x.0; source = x.1.0.0; trx = x.1.0.1 }) (λ (c : SetWindow). (c.size, ((c.source, c.trx), tt))) (λ x. refl {a = x}) (λ c. refl {a = c})
    (behind_means (one_fronts (number_means (2 ^ 64))) labelled (λ rest x h. tt))

pub change_means : Means change_form IsChangeLine
change_means = line_means (after_means (codes "window") changed_means)

-- what is read of a line of either kind, by whether its first word is `window`
pub by_first_word : (line : List ℕ) (b : Bool) → is_next (codes "window") (words line) ≡ b → order_form line ≡ cond b (option_map OfSetWindow (change_form line)) (option_map WriteSet (item_form line))
by_first_word line b e = ap (λ v. cond v (option_map OfSetWindow (change_form line)) (option_map WriteSet (item_form line))) e

order_again : (line : List ℕ) (i : Item) → IsOrderLine line i → order_form line ≡ Some i
order_again line (WriteSet w) h = by_first_word line false (rw h.1 refl) ∙ ap (option_map WriteSet) (item_means.again line w h)
order_again line (OfSetWindow c) h = by_first_word line true (rw h.1 refl) ∙ ap (option_map OfSetWindow) (change_means.again line c h)

pub order_means : Means order_form IsOrderLine
order_means = record {
  found = λ line.
      tested (is_next (codes "window") (words line)) (λ is. mapped OfSetWindow (change_form line) (change_means.found line)) (λ is. mapped WriteSet (item_form line) (item_means.found line));
  again = order_again;
}

setting_means : Means setting_in IsSetting
unfolding setting_in
setting_means =
    let n = number_means (2 ^ 32) in
    via_means (λ x. setting x.0 x.1.0 x.1.1) (λ (p : Setting). (p.window, (p.cells, p.rows))) (λ x. refl {a = x}) (λ p. refl {a = p})
    (behind_means (one_fronts n) (behind_means (one_fronts n) (more_means n) (λ rest x h. tt)) (λ rest x h. tt))

pub params_mean : Means params_form IsParamsLine
params_mean = line_means (after_means (codes "params") setting_means)
