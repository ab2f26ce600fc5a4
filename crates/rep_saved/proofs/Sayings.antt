-- What lines say, taken one by one.
use Rattle.std.proofs.Common.{◌≡◌, ℕ, ◌+◌, ◌<◌, ◌≤◌, ◌==◌, Bool, true, false, cond, List, [], ◌∷◌, length, take, drop, Option, None, Some, Result, Err, refl, sym, ap, ◌∙◌, arith}
use Rattle.std.specs.List.{slice_split, onto_first, position_or_len}
use Rattle.std.proofs.Common.{ltb, length-take, length-drop}
use Rattle.std.proofs.lemmas.Bool.{ltb-true, ltb-false}
use Rattle.std.proofs.lemmas.List.Splits.{slice_split_first}
use Rattle.std.specs.Option.{option_map}
use Rattle.rep_record.specs.Words.{cut}
use Rattle.rep_saved.specs.Lines.{said, without_return}
use Rattle.rep_types.specs.declared.refusal.Refusal.{Refusal}
use Rattle.rep_types.specs.declared.refusal.Refusal.TheVariants.{Malformed}
use Rattle.rep_types.proofs.Choices.{option_or_assoc}
use Rattle.rep_saved.specs.declared.saved.Found.{Found}
use Rattle.rep_saved.specs.declared.saved.SavedState.{SavedState}
use Rattle.rep_saved.specs.declared.line.Said.{Said}
use Rattle.rep_saved.specs.declared.line.Said.TheVariants.{Nothing, Uuid, Seqno, Safe, Bad}
use Rattle.rep_saved.specs.Saved.{Saying, saying, sayings, whole, rest_of, found_with}

-- one more saying that is not bad is found
pub rest_more : (size at : ℕ) (f g : Found) (said : Said) (ss : List Saying) → found_with f said ≡ Some g → rest_of size f (saying at said ∷ ss) ≡ rest_of size g ss
rest_more size at f g Nothing ss e = let same : f ≡ g = cc in simp option_or_assoc (ap (λ h. rest_of size h ss) same)
rest_more size at f g (Uuid uuid) ss e = let same : record f { uuid = Some uuid } ≡ g = cc in simp option_or_assoc (ap (λ h. rest_of size h ss) same)
rest_more size at f g (Seqno seqno) ss e = let same : record f { seqno = Some seqno } ≡ g = cc in simp option_or_assoc (ap (λ h. rest_of size h ss) same)
rest_more size at f g (Safe safe) ss e = let same : record f { safe = Some safe } ≡ g = cc in simp option_or_assoc (ap (λ h. rest_of size h ss) same)
rest_more size at f g Bad ss e = absurd cc

-- a bad one is the fault
pub rest_bad : (size at : ℕ) (f : Found) (said : Said) (ss : List Saying) → found_with f said ≡ None → rest_of size f (saying at said ∷ ss) ≡ Err (Malformed at)
rest_bad size at f Nothing ss e = absurd cc
rest_bad size at f (Uuid uuid) ss e = absurd cc
rest_bad size at f (Seqno seqno) ss e = absurd cc
rest_bad size at f (Safe safe) ss e = absurd cc
rest_bad size at f Bad ss e = refl

-- ---- lines

abbrev pub is_feed : ℕ → Bool
is_feed b = b == 10

-- a text has a first line
split_some_by : (p : ℕ → Bool) (x : ℕ) (xs : List ℕ) (b : Bool) → (first : List ℕ) × ((more : List (List ℕ)) × (slice_split p xs ≡ first ∷ more)) →
    (first : List ℕ) × ((more : List (List ℕ)) × (cond b ([] ∷ slice_split p xs) (onto_first x (slice_split p xs)) ≡ first ∷ more))
split_some_by p x xs true h = ([], (slice_split p xs, refl))
split_some_by p x xs false (first, (more, e)) = (x ∷ first, (more, ap (onto_first x) e))

split_some : (p : ℕ → Bool) (xs : List ℕ) → (first : List ℕ) × ((more : List (List ℕ)) × (slice_split p xs ≡ first ∷ more))
split_some p [] = ([], ([], refl))
split_some p (x ∷ xs) = split_some_by p x xs (p x) (split_some p xs)

-- without the mark a text is one line
split_none_by : (p : ℕ → Bool) (x : ℕ) (xs : List ℕ) (b : Bool) → p x ≡ b → length (x ∷ xs) ≤ position_or_len p (x ∷ xs) →
    (length xs ≤ position_or_len p xs → slice_split p xs ≡ xs ∷ []) → cond b ([] ∷ slice_split p xs) (onto_first x (slice_split p xs)) ≡ (x ∷ xs) ∷ []
split_none_by p x xs true e h rest = absurd (let none : position_or_len p (x ∷ xs) ≡ 0 = rw e refl in omega (arith, h, none))
split_none_by p x xs false e h rest =
    let more : position_or_len p (x ∷ xs) ≡ 1 + position_or_len p xs = rw e refl in
    ap (onto_first x) (rest (omega (arith, h, more)))

split_none : (p : ℕ → Bool) (xs : List ℕ) → length xs ≤ position_or_len p xs → slice_split p xs ≡ xs ∷ []
split_none p [] h = refl
split_none p (x ∷ xs) h = split_none_by p x xs (p x) refl h (split_none p xs)

-- what a cut at a line feed says of the lines
pub record FirstLine (text line behind : List ℕ) : Type 0 where
  pub lines : slice_split is_feed text ≡ line ∷ slice_split is_feed behind
  pub size : length text ≡ length line + 1 + length behind

some_parts : (a b c d : List ℕ) → ◌≡◌ {A = Option (List ℕ × List ℕ)} (Some (a, b)) (Some (c, d)) → (a ≡ c) × (b ≡ d)
some_parts a b c d h =
    let same : ◌≡◌ {A = List ℕ × List ℕ} (a, b) (c, d) = cc in
    (ap (λ (p : List ℕ × List ℕ). p.0) same, ap (λ (p : List ℕ × List ℕ). p.1) same)

cut_by : (text : List ℕ) (b : Bool) (line behind : List ℕ) → ltb (position_or_len is_feed text) (length text) ≡ b →
    option_map {U = List ℕ × List ℕ} (λ at. (take at text, drop (at + 1) text)) (cond b (Some (position_or_len is_feed text)) None) ≡ Some (line, behind) → FirstLine text line behind
cut_by text true line behind e h =
    let within : position_or_len is_feed text < length text = ltb-true _ _ e in
    let parts = some_parts (take (position_or_len is_feed text) text) (drop (position_or_len is_feed text + 1) text) line behind h in
    record {
      lines = rw (← parts.0, ← parts.1) (slice_split_first is_feed text 0 within);
      size = rw (← parts.0, ← parts.1) (omega (arith, length-take (position_or_len is_feed text) text, length-drop (position_or_len is_feed text + 1) text, within));
    }
cut_by text false line behind e h = absurd cc

pub first_line : (text line behind : List ℕ) → Some (line, behind) ≡ cut 10 text → FirstLine text line behind
unfolding cut
first_line text line behind e = cut_by text (ltb (position_or_len is_feed text) (length text)) line behind refl (sym e)

none_by : (text : List ℕ) (b : Bool) → ltb (position_or_len is_feed text) (length text) ≡ b →
    option_map {U = List ℕ × List ℕ} (λ at. (take at text, drop (at + 1) text)) (cond b (Some (position_or_len is_feed text)) None) ≡ None → slice_split is_feed text ≡ text ∷ []
none_by text true e h = absurd cc
none_by text false e h = split_none is_feed text (ltb-false _ _ e)

pub last_line : (text : List ℕ) → None ≡ cut 10 text → slice_split is_feed text ≡ text ∷ []
unfolding cut
last_line text e = none_by text (ltb (position_or_len is_feed text) (length text)) refl (sym e)

-- what the lines say from one that a line feed ends
pub says_first : (at : ℕ) (line behind : List ℕ) → sayings at (line ∷ slice_split is_feed behind) ≡ saying at (said (without_return line)) ∷ sayings (at + length line + 1) (slice_split is_feed behind)
says_first at line behind =
    let some = split_some is_feed behind in
    rw some.1.1 refl

-- ---- the reader's loop

-- what holds behind a line, where its text is at this offset and what it says is found
pub told_more : (size at : ℕ) (f g : Found) (text line behind : List ℕ) (r : Result SavedState Refusal) → Some (line, behind) ≡ cut 10 text →
    found_with f (said (without_return line)) ≡ Some g → r ≡ rest_of size f (sayings at (slice_split is_feed text)) →
    r ≡ rest_of size g (sayings (at + length line + 1) (slice_split is_feed behind))
told_more size at f g text line behind r cuts found told =
    let first = first_line text line behind cuts in
    told ∙ ap (λ ls. rest_of size f (sayings at ls)) first.lines ∙ ap (rest_of size f) (says_first at line behind)
    ∙ rest_more size at f g (said (without_return line)) (sayings (at + length line + 1) (slice_split is_feed behind)) found

-- a bad line that a line feed ends
pub told_bad : (size at : ℕ) (f : Found) (text line behind : List ℕ) (r : Result SavedState Refusal) → Some (line, behind) ≡ cut 10 text →
    found_with f (said (without_return line)) ≡ None → r ≡ rest_of size f (sayings at (slice_split is_feed text)) → Err (Malformed at) ≡ r
told_bad size at f text line behind r cuts bad told =
    let first = first_line text line behind cuts in
    sym (told ∙ ap (λ ls. rest_of size f (sayings at ls)) first.lines ∙ ap (rest_of size f) (says_first at line behind)
    ∙ rest_bad size at f (said (without_return line)) (sayings (at + length line + 1) (slice_split is_feed behind)) bad)

-- the last line
pub told_last : (size at : ℕ) (f g : Found) (text : List ℕ) (r : Result SavedState Refusal) → None ≡ cut 10 text →
    found_with f (said text) ≡ Some g → r ≡ rest_of size f (sayings at (slice_split is_feed text)) → whole size g.uuid g.seqno g.safe ≡ r
told_last size at f g text r cuts found told =
    sym (told ∙ ap (λ ls. rest_of size f (sayings at ls)) (last_line text cuts) ∙ rest_more size at f g (said text) [] found)

pub told_last_bad : (size at : ℕ) (f : Found) (text : List ℕ) (r : Result SavedState Refusal) → None ≡ cut 10 text →
    found_with f (said text) ≡ None → r ≡ rest_of size f (sayings at (slice_split is_feed text)) → Err (Malformed at) ≡ r
told_last_bad size at f text r cuts bad told =
    sym (told ∙ ap (λ ls. rest_of size f (sayings at ls)) (last_line text cuts) ∙ rest_bad size at f (said text) [] bad)
