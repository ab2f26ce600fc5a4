-- The laws of forms, and of how forms are made of others.
use Rattle.std.proofs.Common.{◌≡◌, ℕ, zero, suc, ◌+◌, ◌*◌, ◌<◌, ◌≤◌, ◌^◌, Bool, true, false, ltb, List, [], ◌∷◌, ◌++◌, length, Option, Some, refl, sym, ap, ◌∙◌, append_assoc, arith}
use Rattle.std.specs.Prelude.{◌&&◌}
use Rattle.std.specs.List.{flat_map, AllByRecursion}
use Rattle.std.proofs.lemmas.Bool.{le-ltb}
use Rattle.std.proofs.lemmas.Bool.Decides.{nat_tests}
use Rattle.std.proofs.lemmas.Grind.{flat_map-append}
use Rattle.std.proofs.lemmas.List.{take_at, drop_at, length-append, append-nil, length-replicate}
use Rattle.std.proofs.lemmas.List.Concat.{flat_map-cons}
use Rattle.byteorder.specs.Numbers.{big_number-reads_back, length-bytes_high_first}
use Rattle.rep_forms.specs.Forms.{Form, IsForm, part, part_of, byte, first_byte, number, number_bytes, number_in, zeros, are_blank, both, via, padded, marked, each, many, as_named}

-- ---- sizes

pub length_number : (n x : ℕ) → length (number_bytes n x) ≡ n
unfolding number_bytes
length_number n x = length-bytes_high_first n x

pub length_zeros : (n : ℕ) → length (zeros n) ≡ n
unfolding zeros
length_zeros n = length-replicate {A = ℕ} n 0

pub length_numbers : (n : ℕ) (xs : List ℕ) → length (flat_map (number_bytes n) xs) ≡ n * length xs
length_numbers n [] = omega arith
length_numbers n (x ∷ xs) = grind (arith, length_number, length_numbers n xs, flat_map-cons (number_bytes n) x xs, length-append)

-- the sizes of the parts
pub ruleset sizes = (length_number, length_numbers, length_zeros, length-append)

-- ---- one piece behind another

pub joined : (a b c d : List ℕ) → b ≡ a ++ c → b ++ d ≡ a ++ (c ++ d)
joined a b c d e = rw (e, append_assoc) refl

-- ---- what is spelled is read

-- a part of its length
pub part_again : (n : ℕ) (bytes rest : List ℕ) → length bytes ≡ n → part n (bytes ++ rest) ≡ Some (bytes, rest)
unfolding part
part_again n bytes rest e =
    let long : ltb (length (bytes ++ rest)) n ≡ false = le-ltb _ _ (omega (arith, length-append bytes rest)) in
    rw (long, take_at bytes rest n e, drop_at bytes rest n e) refl

pub part_is_form : (n : ℕ) → IsForm (part_of n)
part_is_form n = record { again = λ bytes rest h. part_again n bytes rest h.size }

pub byte_is_form : IsForm byte
unfolding first_byte
byte_is_form = record { again = λ b rest h. refl }

-- a number that fits
number_again : (n x : ℕ) → x < 256 ^ n → number_in n (number_bytes n x) ≡ x
unfolding number_in number_bytes
number_again n x h = ap (number_in n) (sym (append-nil (number_bytes n x))) ∙ big_number-reads_back n x [] h

pub number_is_form : (n : ℕ) → IsForm (number n)
number_is_form n = record { again = λ x rest h. rw (part_again n (number_bytes n x) rest (length_number n x), number_again n x h) refl }

-- one form behind another
pub both_is_form : {A B : Type 0} (F : Form A) (G : A → Form B) → IsForm F → ((a : A) → IsForm (G a)) → IsForm (both F G)
both_is_form F G f g = record {
  again = λ x rest h. ap (both F G).read (append_assoc (F.spell x.0) ((G x.0).spell x.1) rest) ∙ rw (f.again x.0 ((G x.0).spell x.1 ++ rest) h.0, (g x.0).again x.1 rest h.1) refl;
}

-- a form of other values
pub via_is_form : {A B : Type 0} (F : Form A) (from : B → A) (to : A → Option B) → IsForm F → IsForm (via F from to)
via_is_form F from to f = record { again = λ x rest h. rw (f.again (from x) rest h.0, h.1) refl }

-- a form with zeros behind it
pub padded_is_form : {A : Type 0} (F : Form A) (n : ℕ) → IsForm F → IsForm (padded F n)
padded_is_form F n f = record {
  again = λ x rest h. ap (padded F n).read (append_assoc (F.spell x) (zeros n) rest) ∙ rw (f.again x (zeros n ++ rest) h, part_again n (zeros n) rest (length_zeros n)) refl;
}

-- a form behind a mark
pub marked_is_form : {A : Type 0} (mark : List ℕ) (F : Form A) → IsForm F → IsForm (marked mark F)
marked_is_form mark F f = record {
  again = λ x rest h. ap (marked mark F).read (append_assoc mark (F.spell x) rest) ∙ rw (part_again (length mark) mark (F.spell x ++ rest) refl) (f.again x rest h);
}

-- values one after another
pub each_again : {A : Type 0} (F : Form A) → IsForm F → (xs : List A) (rest : List ℕ) → AllByRecursion F.Fits xs → each F.read (length xs) (flat_map F.spell xs ++ rest) ≡ Some (xs, rest)
unfolding each
each_again F f [] rest h = refl
each_again F f (x ∷ xs) rest h =
    let regrouped : flat_map F.spell (x ∷ xs) ++ rest ≡ F.spell x ++ (flat_map F.spell xs ++ rest) = ap (λ bytes. bytes ++ rest) (flat_map-cons F.spell x xs) ∙ append_assoc (F.spell x) (flat_map F.spell xs) rest in
    ap (each F.read (suc (length xs))) regrouped ∙ rw (f.again x (flat_map F.spell xs ++ rest) h.0, each_again F f xs rest h.1) refl

pub many_is_form : {A : Type 0} (limit n : ℕ) (F : Form A) → IsForm F → IsForm (many limit n F)
many_is_form limit n F f = record {
  again = λ xs rest h.
      let read : each F.read n (flat_map F.spell xs ++ rest) ≡ Some (xs, rest) = ap (λ k. each F.read k (flat_map F.spell xs ++ rest)) (sym h.size) ∙ each_again F f xs rest h.each in
      rw (le-ltb limit n h.few, read) refl;
}

-- the laws of forms that are made of others
pub ruleset forms = (part_is_form, byte_is_form, number_is_form, both_is_form, via_is_form, padded_is_form, marked_is_form, many_is_form)

-- the same in other words
pub named_is_form : {A : Type 0} (F : Form A) (Fits : A → Type 0) (spell : A → List ℕ) → IsForm F → ((x : A) → Fits x → F.Fits x) → ((x : A) → Fits x → spell x ≡ F.spell x) → IsForm (as_named F Fits spell)
named_is_form F Fits spell f fits same = record { again = λ x rest h. ap (λ (bytes : List ℕ). F.read (bytes ++ rest)) (same x h) ∙ f.again x rest (fits x h) }

-- ---- runs

-- one more at the end
pub run_more : {A : Type 0} (spell : A → List ℕ) (xs : List A) (x : A) → flat_map spell (xs ++ x ∷ []) ≡ flat_map spell xs ++ spell x
run_more spell xs x = rw (flat_map-append, flat_map-cons, append-nil) refl

-- what holds of each holds with one more
pub all_more : {A : Type 0} (P : A → Type 0) (xs : List A) (x : A) → AllByRecursion P xs → P x → AllByRecursion P (xs ++ x ∷ [])
all_more P [] x h p = (p, tt)
all_more P (y ∷ xs) x h p = (h.0, all_more P xs x h.1 p)

-- so many spellings of at most so many bytes
pub run_short : {A : Type 0} (spell : A → List ℕ) (P : A → Type 0) (most : ℕ) → ((x : A) → P x → length (spell x) ≤ most) → (xs : List A) → AllByRecursion P xs → length (flat_map spell xs) ≤ most * length xs
run_short spell P most short [] h = omega arith
run_short spell P most short (x ∷ xs) h = grind (arith, short x h.0, run_short spell P most short xs h.1, flat_map-cons spell x xs, length-append)

-- what holds of all holds of each
pub all_of : {A : Type 0} (P : A → Type 0) → ((x : A) → P x) → (xs : List A) → AllByRecursion P xs
all_of P h [] = tt
all_of P h (x ∷ xs) = (h x, all_of P h xs)

-- so many spellings of so many bytes
pub run_size : {A : Type 0} (spell : A → List ℕ) (P : A → Type 0) (size : ℕ) → ((x : A) → P x → length (spell x) ≡ size) → (xs : List A) → AllByRecursion P xs → length (flat_map spell xs) ≡ size * length xs
run_size spell P size is [] h = omega arith
run_size spell P size is (x ∷ xs) h = grind (arith, is x h.0, run_size spell P size is xs h.1, flat_map-cons spell x xs, length-append)

-- ---- zeros

-- both sides of a conjunction that holds
pub conjuncts : (a b : Bool) → (a && b) ≡ true → (a ≡ true) × (b ≡ true)
conjuncts true b e = (refl, e)
conjuncts false b e = absurd cc

-- bytes that all are zero
pub blank_is : (bytes : List ℕ) → are_blank bytes ≡ true → bytes ≡ zeros (length bytes)
unfolding zeros
blank_is [] e = refl
blank_is (b ∷ bytes) e = grind (arith, nat_tests, blank_is bytes)

-- and zeros are
pub zeros_blank : (n : ℕ) → are_blank (zeros n) ≡ true
unfolding zeros
zeros_blank zero = refl
zeros_blank (suc n) = zeros_blank n
