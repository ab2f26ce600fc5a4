-- Lists of which the front is kept while they come.
use Rattle.std.proofs.Common.{◌≡◌, ℕ, zero, suc, ◌^◌, ◌≤◌, Bool, true, false, cond, List, [], ◌∷◌, ◌++◌, length, get_or, take, drop, map, Option, Some, None, refl, sym, ap, ◌∙◌, append_assoc, arith}
use Rattle.std.specs.Prelude.{◌||◌, codes}
use Rattle.std.specs.List.{fold, list_any}
use Rattle.std.specs.Option.{option_map}
use Rattle.std.proofs.Math.Bool.{or_assoc, or-false}
use Rattle.std.proofs.lemmas.List.{append-nil}
use Rattle.rep_types.specs.declared.key.Key.{Key}
use Rattle.rep_types.specs.declared.value.Write.{Write}
use Rattle.rep_forms.specs.Options.{◌>>=◌}
use Rattle.rep_record.specs.Reading.{number_in, byte_in, hex_in, key_in, write_in, each, is_next, keys_in, is_long}
use Rattle.rep_record.specs.Drafts.{short_write, drafted_reads, drafted_writes}

-- one more element is kept, where there is room
abbrev pub keep : {A : Type 0} → ℕ → List A → A → List A
keep n kept x = take n (kept ++ x ∷ [])

-- what more comes is kept as if all had been
take-take_append : {A : Type 0} (n : ℕ) (front more : List A) → take n (take n front ++ more) ≡ take n (front ++ more)
take-take_append zero front more = refl
take-take_append (suc n) [] more = refl
take-take_append (suc n) (x ∷ front) more = ap (λ xs. x ∷ xs) (take-take_append n front more)

-- of elements that are kept one by one the front is
fold_keep : {A : Type 0} (n : ℕ) (front xs : List A) → fold (keep n) (take n front) xs ≡ take n (front ++ xs)
fold_keep n front [] = ap (take n) (sym (append-nil front))
fold_keep n front (x ∷ xs) =
    ap (λ kept. fold (keep n) kept xs) (take-take_append n front (x ∷ [])) ∙ fold_keep n (front ++ x ∷ []) xs ∙ ap (take n) (append_assoc front (x ∷ []) xs)

-- what is the same of each value is the same of one that may be missing
same_map : {A B : Type 0} (f g : A → B) → ((x : A) → f x ≡ g x) → (o : Option A) → option_map f o ≡ option_map g o
same_map f g h None = refl
same_map f g h (Some x) = ap Some (h x)

-- one more element goes to those that are kept
more_kept : {A S : Type 0} (add : S → A → S) (s : S) (x : A) (rest : Option (List A)) → option_map (fold add (add s x)) rest ≡ option_map (fold add s) (rest >>= λ xs. Some (x ∷ xs))
more_kept add s x None = refl
more_kept add s x (Some xs) = refl

-- ---- bytes

-- reading bytes of which the first 63 are kept, after those that were kept before
abbrev pub hex_from : List ℕ → List ℕ → Option (List ℕ)
hex_from kept [] = Some kept
hex_from kept (high ∷ []) = None
hex_from kept (high ∷ low ∷ digits) = byte_in high low >>= λ byte. hex_from (keep 63 kept byte) digits

hex_from_is : (kept digits : List ℕ) → hex_from kept digits ≡ option_map (fold (keep 63) kept) (hex_in digits)
unfolding hex_in
hex_from_is kept [] = refl
hex_from_is kept (high ∷ []) = refl
hex_from_is kept (high ∷ low ∷ digits) = by_byte (byte_in high low) (λ byte. hex_from_is (keep 63 kept byte) digits)
  where
    by_byte : (o : Option ℕ) → ((b : ℕ) → hex_from (keep 63 kept b) digits ≡ option_map (fold (keep 63) (keep 63 kept b)) (hex_in digits))
        → (o >>= λ b. hex_from (keep 63 kept b) digits) ≡ option_map (fold (keep 63) kept) (o >>= λ b. hex_in digits >>= λ bytes. Some (b ∷ bytes))
    by_byte None h = refl
    by_byte (Some b) h = h b ∙ more_kept (keep 63) kept b (hex_in digits)

-- all of the digits, from nothing on
pub hex_kept : (digits : List ℕ) → hex_from [] digits ≡ option_map (take 63) (hex_in digits)
hex_kept digits = hex_from_is [] digits ∙ same_map (fold (keep 63) []) (take 63) (fold_keep 63 []) (hex_in digits)

-- one step of the loop over the digits
pub hex_step : (kept rest : List ℕ) → 2 ≤ length rest → hex_from kept rest ≡ (byte_in (get_or rest 0 0) (get_or rest 1 0) >>= λ byte. hex_from (take 63 (kept ++ byte ∷ [])) (drop 2 rest))
hex_step kept [] le = absurd (omega arith)
hex_step kept (high ∷ []) le = absurd (omega arith)
hex_step kept (high ∷ low ∷ digits) le = refl

-- ---- words

-- reading words of which something is kept, after those that were kept before
abbrev pub each_from : {A S : Type 0} → (S → A → S) → (List ℕ → Option A) → S → List (List ℕ) → Option S
each_from add f s [] = Some s
each_from add f s (word ∷ rest) = f word >>= λ x. each_from add f (add s x) rest

each_from_is : {A S : Type 0} (add : S → A → S) (f : List ℕ → Option A) (s : S) (words : List (List ℕ)) → each_from add f s words ≡ option_map (fold add s) (each f words)
unfolding each
each_from_is add f s [] = refl
each_from_is {A} add f s (word ∷ rest) = by_word (f word) (λ x. each_from_is add f (add s x) rest)
  where
    by_word : (o : Option A) → ((x : A) → each_from add f (add s x) rest ≡ option_map (fold add (add s x)) (each f rest))
        → (o >>= λ x. each_from add f (add s x) rest) ≡ option_map (fold add s) (o >>= λ x. each f rest >>= λ xs. Some (x ∷ xs))
    by_word None h = refl
    by_word (Some x) h = h x ∙ more_kept add s x (each f rest)

-- the rows of a params line
pub rows_kept : (words : List (List ℕ)) → each_from (keep 9) (number_in (2 ^ 32)) [] words ≡ option_map (take 9) (each (number_in (2 ^ 32)) words)
rows_kept words = each_from_is (keep 9) (number_in (2 ^ 32)) [] words ∙ same_map (fold (keep 9) []) (take 9) (fold_keep 9 []) (each (number_in (2 ^ 32)) words)

-- the next of the writes, and whether a value so far was too long
abbrev pub keep_write : List Write × Bool → Write → List Write × Bool
keep_write kept write = (keep 17 kept.0 (short_write write), kept.1 || is_long write)

-- the list and the test apart
fold_writes : (front : List Write) (long : Bool) (writes : List Write) → fold keep_write (front, long) writes ≡ (fold (keep 17) front (map short_write writes), long || list_any is_long writes)
fold_writes front long [] = rw or-false refl
fold_writes front long (write ∷ writes) = fold_writes (keep 17 front (short_write write)) (long || is_long write) writes ∙ rw or_assoc refl

-- all of the writes, from nothing on
pub writes_kept : (words : List (List ℕ)) → each_from keep_write write_in ([], false) words ≡ option_map drafted_writes (each write_in words)
writes_kept words =
    each_from_is keep_write write_in ([], false) words
    ∙ same_map (fold keep_write ([], false)) drafted_writes (λ writes. fold_writes [] false writes ∙ rw (fold_keep 17 [] (map short_write writes)) refl) (each write_in words)

-- ---- keys up to the word `w`

-- reading keys of which the first 17 are kept, after those that were kept before
abbrev pub keys_from : List Key → List (List ℕ) → Option (List Key × List (List ℕ))
keys_from kept [] = None
keys_from kept (word ∷ rest) = key_in word >>= λ key. cond (is_next (codes "w") rest) (Some (keep 17 kept key, rest)) (keys_from (keep 17 kept key) rest)

-- what is kept of the keys before and these
abbrev onto_keys : List Key → List Key × List (List ℕ) → List Key × List (List ℕ)
onto_keys kept keys = (fold (keep 17) kept keys.0, keys.1)

-- one more key
more_keys : (kept : List Key) (key : Key) (read : Option (List Key × List (List ℕ)))
    → option_map (onto_keys (keep 17 kept key)) read ≡ option_map (onto_keys kept) (read >>= λ keys. Some (key ∷ keys.0, keys.1))
more_keys kept key None = refl
more_keys kept key (Some keys) = refl

keys_from_is : (kept : List Key) (words : List (List ℕ)) → keys_from kept words ≡ option_map (onto_keys kept) (keys_in words)
unfolding keys_in
keys_from_is kept [] = refl
keys_from_is kept (word ∷ rest) = by_word (key_in word) (is_next (codes "w") rest) (λ key. keys_from_is (keep 17 kept key) rest)
  where
    by_word : (o : Option Key) (last : Bool) → ((key : Key) → keys_from (keep 17 kept key) rest ≡ option_map (onto_keys (keep 17 kept key)) (keys_in rest))
        → (o >>= λ key. cond last (Some (keep 17 kept key, rest)) (keys_from (keep 17 kept key) rest))
        ≡ option_map (onto_keys kept) (o >>= λ key. cond last (Some (key ∷ [], rest)) (keys_in rest >>= λ keys. Some (key ∷ keys.0, keys.1)))
    by_word None last h = refl
    by_word (Some key) true h = refl
    by_word (Some key) false h = h key ∙ more_keys kept key (keys_in rest)

-- all of the keys, from nothing on
pub keys_kept : (words : List (List ℕ)) → keys_from [] words ≡ option_map drafted_reads (keys_in words)
keys_kept words = keys_from_is [] words ∙ same_map (onto_keys []) drafted_reads (λ keys. ap (λ ks. (ks, keys.1)) (fold_keep 17 [] keys.0)) (keys_in words)
