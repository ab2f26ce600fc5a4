-- Keys that are read one by one, of which the first 16 are kept.
use Rattle.std.proofs.Common.{◌≡◌, ℕ, ◌<◌, ◌≤◌, Bool, true, false, List, [], ◌∷◌, ◌++◌, length, take, Option, None, Some, refl, sym, ap, ◌∙◌, arith, append_assoc, append-nil, length-append}
use Rattle.std.specs.Prelude.{nat_lt, ◌||◌}
use Rattle.std.specs.Option.{option_map}
use Rattle.std.proofs.lemmas.List.{take_at, take_all}
use Rattle.std.proofs.lemmas.Bool.{lt-ltb, le-ltb}
use Rattle.rep_forms.specs.Options.{◌>>=◌}
use Rattle.rep_record.specs.Reading.{each, key_in}
use Rattle.rep_types.specs.declared.key.Key.{Key}

-- what is kept of the keys so far and of those that come, and whether there are more
abbrev pub keys_from : List Key → Bool → Option (List Key) → Option (List Key × Bool)
keys_from kept more rest = option_map (λ keys. (take 16 (kept ++ keys), more || nat_lt 16 (length (kept ++ keys)))) rest

-- one more key is kept
pub key_kept : (kept : List Key) (more : Bool) (k : Key) (rest : Option (List Key)) →
    keys_from (kept ++ k ∷ []) more rest ≡ keys_from kept more (rest >>= λ keys. Some (k ∷ keys))
key_kept kept more k None = refl
key_kept kept more k (Some keys) = ap (λ all. Some (take 16 all, more || nat_lt 16 (length all))) (append_assoc kept (k ∷ []) keys)

either_true : (more : Bool) → (more || true) ≡ true
either_true true = refl
either_true false = refl

either_false : (more : Bool) → (more || false) ≡ more
either_false true = refl
either_false false = refl

-- one more key has no room
pub key_passed : (kept : List Key) (more : Bool) (k : Key) (rest : Option (List Key)) → length kept ≡ 16 →
    keys_from kept true rest ≡ keys_from kept more (rest >>= λ keys. Some (k ∷ keys))
key_passed kept more k None full = refl
key_passed kept more k (Some keys) full =
    let long : 16 < length (kept ++ k ∷ keys) = omega (arith, full, length-append kept (k ∷ keys)) in
    let told : (more || nat_lt 16 (length (kept ++ k ∷ keys))) ≡ true = rw (lt-ltb 16 (length (kept ++ k ∷ keys)) long) (either_true more) in
    rw (told, take_at kept keys 16 full, take_at kept (k ∷ keys) 16 full) refl

-- no more keys come
pub keys_ended : (kept : List Key) (more : Bool) → length kept ≤ 16 → keys_from kept more (Some []) ≡ Some (kept, more)
keys_ended kept more few =
    let short : length (kept ++ []) ≤ 16 = omega (arith, few, length-append kept []) in
    let told : (more || nat_lt 16 (length (kept ++ []))) ≡ more = rw (le-ltb 16 (length (kept ++ [])) short) (either_false more) in
    rw (told, append-nil kept, take_all 16 kept few) refl

-- what the words are, of which the first is a key
each_some : (word : List ℕ) (words : List (List ℕ)) (k : Key) → key_in word ≡ Some k → each key_in (word ∷ words) ≡ (each key_in words >>= λ keys. Some (k ∷ keys))
unfolding each
each_some word words k is = rw is refl

-- what the words are, of which the first is none
pub each_none : (word : List ℕ) (words : List (List ℕ)) → key_in word ≡ None → each key_in (word ∷ words) ≡ None
unfolding each
each_none word words is = rw is refl

pub each_end : each key_in [] ≡ Some []
unfolding each
each_end = refl

-- one more word was read, and its key is kept
pub more_kept : (kept : List Key) (more : Bool) (k : Key) (word : List ℕ) (words all : List (List ℕ)) → key_in word ≡ Some k → all ≡ word ∷ words →
    keys_from (kept ++ k ∷ []) more (each key_in words) ≡ keys_from kept more (each key_in all)
more_kept kept more k word words all is whole =
    key_kept kept more k (each key_in words) ∙ ap (keys_from kept more) (sym (each_some word words k is)) ∙ ap (λ ws. keys_from kept more (each key_in ws)) (sym whole)

-- and there is no room for it
pub more_passed : (kept : List Key) (more : Bool) (k : Key) (word : List ℕ) (words all : List (List ℕ)) → length kept ≡ 16 → key_in word ≡ Some k → all ≡ word ∷ words →
    keys_from kept true (each key_in words) ≡ keys_from kept more (each key_in all)
more_passed kept more k word words all full is whole =
    key_passed kept more k (each key_in words) full ∙ ap (keys_from kept more) (sym (each_some word words k is)) ∙ ap (λ ws. keys_from kept more (each key_in ws)) (sym whole)
