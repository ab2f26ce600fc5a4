-- Lemmas on the lines of a saved state that end within some bytes.
use Rattle.std.proofs.Common.{◌≡◌, ℕ, ◌+◌, ◌<◌, ◌≤◌, ◌==◌, Bool, true, false, ◌⊎◌, cond, List, [], ◌∷◌, ◌++◌, length, take, Option, None, Some, Result, Err, refl, sym, ap, ◌∙◌, arith, inl, inr, append-nil}
use Rattle.std.proofs.lemmas.List.{take_all, take_at, take-take, length-take, length-take-le}
use Rattle.std.specs.List.{slice_split, onto_first}
use Rattle.std.specs.Io.KnownBytes.{Consumes, IsAtEnd}
use Rattle.std.specs.Prelude.{nat_le, if◌then◌else◌, IfSome}
use Rattle.std.proofs.lemmas.Bool.{lt-leb, leb-true, leb-false}
use Rattle.rep_types.specs.declared.refusal.Refusal.{Refusal}
use Rattle.rep_types.specs.declared.refusal.Refusal.TheVariants.{Malformed, OutOfMemory, StreamFault}
use Rattle.rep_record.specs.Words.{cut}
use Rattle.rep_record.specs.Lines.{IsLongText}
use Rattle.rep_saved.specs.declared.saved.SavedState.{SavedState}
use Rattle.rep_saved.specs.Lines.{said, without_return}
use Rattle.rep_saved.specs.Saved.{sayings, sayings_of, is_bad, first_bad, whole, unless_bad, saved_in, last_uuid, last_seqno, last_safe}
use Rattle.rep_script.specs.SavedTexts.{before_lines, ended_lines, fault_of_long, saved_within, ReadsAs}

-- a byte at the end that is no line feed is left out
pub other_at_end : (xs : List ℕ) (b : ℕ) → (b == 10) ≡ false → ended_lines (xs ++ b ∷ []) ≡ ended_lines xs
other_at_end [] b e = rw e refl
other_at_end (x ∷ xs) b e = ap (before_lines x) (other_at_end xs b e)

-- a byte before some
before_some : (x : ℕ) (xs : List ℕ) (b : ℕ) → before_lines x (xs ++ b ∷ []) ≡ x ∷ (xs ++ b ∷ [])
before_some x [] b = refl
before_some x (y ∷ ys) b = refl

-- a line feed at the end keeps all
pub feed_at_end : (xs : List ℕ) (b : ℕ) → (b == 10) ≡ true → ended_lines (xs ++ b ∷ []) ≡ xs ++ b ∷ []
feed_at_end [] b e = rw e refl
feed_at_end (x ∷ xs) b e = ap (before_lines x) (feed_at_end xs b e) ∙ before_some x xs b

-- ---- a line with a bad value begins before the end

abbrev pub is_feed : ℕ → Bool
is_feed b = b == 10

-- how many bytes the lines have, with a line feed behind each
abbrev pub size_of : List (List ℕ) → ℕ
size_of [] = 0
size_of (line ∷ lines) = length line + 1 + size_of lines

size_onto : (b : ℕ) (lines : List (List ℕ)) → 0 < size_of lines → size_of (onto_first b lines) ≡ size_of lines + 1
size_onto b [] some = absurd (omega (arith, some))
size_onto b (line ∷ lines) some = omega arith

size_by : (b : ℕ) (bs : List ℕ) (mark : Bool) → size_of (slice_split is_feed bs) ≡ length bs + 1 →
    size_of (cond mark ([] ∷ slice_split is_feed bs) (onto_first b (slice_split is_feed bs))) ≡ length (b ∷ bs) + 1
size_by b bs true e = omega (arith, e)
size_by b bs false e = size_onto b (slice_split is_feed bs) (omega (arith, e)) ∙ omega (arith, e)

-- the lines of a text have its bytes, and one line feed more
size_whole : (text : List ℕ) → size_of (slice_split is_feed text) ≡ length text + 1
size_whole [] = refl
size_whole (b ∷ bs) = size_by b bs (is_feed b) (size_whole bs)

-- an empty line says nothing that is bad
empty_is_not_bad : is_bad (said []) ≡ false
unfolding cut
empty_is_not_bad = refl

-- what is bad has bytes
bad_has_bytes : (line : List ℕ) → is_bad (said line) ≡ true → 0 < length line
bad_has_bytes [] e = absurd (let none : true ≡ false = sym e ∙ empty_is_not_bad in cc)
bad_has_bytes (b ∷ bs) e = omega arith

bad_before_return : (line : List ℕ) → is_bad (said (without_return line)) ≡ true → 0 < length line
bad_before_return [] e = absurd (let none : true ≡ false = sym e ∙ empty_is_not_bad in cc)
bad_before_return (b ∷ bs) e = omega arith

-- where the first bad line is this one, or one behind it
bad_by : (at x size : ℕ) (bad : Bool) (later : Option ℕ) → cond bad (Some at) later ≡ Some x → (bad ≡ true → at + 1 < size) → (later ≡ Some x → x + 1 < size) → x + 1 < size
bad_by at x size true later e first more =
    let same : at ≡ x = cc in
    let inside : at + 1 < size = first refl in
    omega (arith, same, inside)
bad_by at x size false later e first more = more e

bad_inside : (at x : ℕ) (lines : List (List ℕ)) → first_bad (sayings at lines) ≡ Some x → x + 1 < at + size_of lines
bad_inside at x [] e = absurd cc
bad_inside at x (line ∷ []) e =
    bad_by at x (at + size_of (line ∷ [])) (is_bad (said line)) None e
    (λ bad. let some : 0 < length line = bad_has_bytes line bad in omega (arith, some)) (λ h. absurd cc)
bad_inside at x (line ∷ next ∷ lines) e =
    bad_by at x (at + size_of (line ∷ next ∷ lines)) (is_bad (said (without_return line))) (first_bad (sayings (at + length line + 1) (next ∷ lines))) e
    (λ bad. let some : 0 < length line = bad_before_return line bad in omega (arith, some))
    (λ h. let rest : x + 1 < at + length line + 1 + size_of (next ∷ lines) = bad_inside (at + length line + 1) x (next ∷ lines) h in omega (arith, rest))

-- so its place is within the text
bad_within : (text : List ℕ) (x : ℕ) → first_bad (sayings_of text) ≡ Some x → x < length text
bad_within text x e =
    let inside : x + 1 < 0 + size_of (slice_split is_feed text) = bad_inside 0 x (slice_split is_feed text) e in
    let size : size_of (slice_split is_feed text) ≡ length text + 1 = size_whole text in
    omega (arith, inside, size)

-- ---- the fault of a text that is too long

none_by : (text : List ℕ) (bad : Option ℕ) (r : Result SavedState Refusal) → bad ≡ first_bad (sayings_of text) → r ≡ unless_bad bad (Err StreamFault) →
    ((x : ℕ) → x < length text → Err (Malformed x) ≡ saved_in text → ⊥) → unless_bad bad (Err StreamFault) ≡ Err StreamFault
none_by text None r is e none = refl
none_by text (Some x) r is e none =
    absurd (none x (bad_within text x (sym is)) (ap (λ b. unless_bad b (whole (length text) (last_uuid (sayings_of text)) (last_seqno (sayings_of text)) (last_safe (sayings_of text)))) is))

-- where no fault lies within the text, no line has a bad value
pub none_is_answered : (text : List ℕ) → ((x : ℕ) → x < length text → Err (Malformed x) ≡ saved_in text → ⊥) → Err StreamFault ≡ fault_of_long text
none_is_answered text none = sym (none_by text (first_bad (sayings_of text)) (fault_of_long text) refl refl none)

-- two places of one fault
pub one_place : (x y : ℕ) (r : Result SavedState Refusal) → Err (Malformed x) ≡ r → r ≡ Err (Malformed y) → x ≡ y
one_place x y r a b = let same : ◌≡◌ {A = Result SavedState Refusal} (Err (Malformed x)) (Err (Malformed y)) = a ∙ b in cc

-- ---- what is read of a text

-- what a text says, of which so many bytes are read
abbrev pub within : ℕ → List ℕ → Result SavedState Refusal
within n text = if nat_le (length text) n then saved_in text else fault_of_long (ended_lines (take n text))

-- one byte more tells that a text is too long
front_by : (n : ℕ) (text : List ℕ) (b : Bool) → nat_le (length text) n ≡ b → within n (take (n + 1) text) ≡ within n text
front_by n text true e =
    ap (within n) (take_all (n + 1) text (let short : length text ≤ n = leb-true (length text) n e in omega (arith, short)))
front_by n text false e =
    let long : n < length text = leb-false (length text) n e in
    let size : length (take (n + 1) text) ≡ n + 1 = length-take-le (n + 1) text (omega (arith, long)) in
    rw (e, lt-leb (length (take (n + 1) text)) n (omega (arith, size))) (ap (λ t. fault_of_long (ended_lines t)) (take-take n (n + 1) text (omega arith)))

front_says_it : (text : List ℕ) → saved_within (take 67108865 text) ≡ saved_within text
front_says_it text = front_by 67108864 text (nat_le (length text) 67108864) refl

-- what a text says, of which a front was read
pub front_read_as : (known : Option (List ℕ)) (bytes : List ℕ) (r : Result SavedState Refusal) → IfSome known (λ text. bytes ≡ take 67108865 text) →
    r ≡ saved_within bytes → IfSome known (λ text. ReadsAs text r)
front_read_as None bytes r is says = tt
front_read_as (Some text) bytes r is says = inl (says ∙ ap saved_within is ∙ front_says_it text)

-- a text whose front is too long is too long
pub front_long : (known : Option (List ℕ)) (bytes : List ℕ) → IfSome known (λ text. bytes ≡ take 67108865 text) → 67108864 < length bytes → IsLongText known
front_long None bytes is long = tt
front_long (Some text) bytes is long = omega (arith, length-take 67108865 text, ap length is, long)

-- a text of which none was read
pub front_unread : (known : Option (List ℕ)) (e : Refusal) → (e ≡ OutOfMemory) ⊎ (e ≡ StreamFault) → IfSome known (λ text. ReadsAs text (Err e))
front_unread None e why = tt
front_unread (Some text) e (inl memory) = inr (inl (ap Err memory))
front_unread (Some text) e (inr stream) = inr (inr (ap Err stream))

-- ---- reading a front of a text

-- as many bytes as are wanted
pub front_full : (known left : Option (List ℕ)) (front : List ℕ) (most : ℕ) → Consumes known left front → length front ≡ most → IfSome known (λ text. front ≡ take most text)
front_full None left front most taken size = tt
front_full (Some text) None front most taken size = absurd taken
front_full (Some text) (Some rest) front most taken size = rw taken (sym (take_at front rest most size))

-- or all that there are
pub front_whole : (known left : Option (List ℕ)) (front : List ℕ) (most : ℕ) → Consumes known left front → IsAtEnd left → length front ≤ most → IfSome known (λ text. front ≡ take most text)
front_whole None left front most taken end few = tt
front_whole (Some text) None front most taken end few = absurd taken
front_whole (Some text) (Some rest) front most taken end few =
    let whole : text ≡ front = taken ∙ ap (λ l. front ++ l) end ∙ append-nil front in
    rw whole (sym (take_all most front few))
