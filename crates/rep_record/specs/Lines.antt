-- The lines of a text, and how they are handed out one after another.
use Rattle.std.specs.Prelude.{◌≡◌, ◌≢◌, ℕ, ◌+◌, ◌<◌, ◌≤◌, ◌⊎◌, Bool, true, false, ◌==◌, nat_lt, if◌then◌else◌, List, [], ◌∷◌, ◌++◌, length, Option, None, Some, IfSome, Result, Ok, Err}
use Rattle.std.specs.List.{AllByRecursion, flat_map, onto_first}
use Rattle.std.specs.Io.KnownBytes.{prepend_known}
use Rattle.rep_types.specs.declared.refusal.Refusal.{Refusal}
use Rattle.rep_types.specs.declared.refusal.Refusal.TheVariants.{Malformed, StreamFault}

-- The lines of a text, each with its line feed.
abbrev pub raw_lines : List ℕ → List (List ℕ)
raw_lines [] = []
raw_lines (b ∷ bs) = if b == 10 then (b ∷ []) ∷ raw_lines bs else onto_first b (raw_lines bs)

-- A line without its line feed: the bytes before the first line feed.
abbrev pub without_feed : List ℕ → List ℕ
without_feed [] = []
without_feed (b ∷ bs) = if b == 10 then [] else b ∷ without_feed bs

-- a line feed stands at most at the line's end
abbrev pub EndsAtFeed : List ℕ → Type 0
EndsAtFeed line = (line ≡ without_feed line) ⊎ (line ≡ without_feed line ++ 10 ∷ [])

-- each line but the last ends with a line feed
abbrev pub AreFed : List (List ℕ) → Type 0
AreFed [] = Unit {0}
AreFed (line ∷ []) = Unit {0}
AreFed (line ∷ next ∷ lines) = (line ≡ without_feed line ++ 10 ∷ []) × AreFed (next ∷ lines)

-- These are the lines of the text: joined they are the text, each has one byte or more and a line feed at most at its
-- end, and each but the last has one there.
pub record AreLines (text : List ℕ) (lines : List (List ℕ)) : Type 0 where
  pub whole : flat_map (λ (line : List ℕ). line) lines ≡ text
  pub filled : AllByRecursion (λ (line : List ℕ). 0 < length line) lines
  pub at_end : AllByRecursion EndsAtFeed lines
  pub fed : AreFed lines

-- What is wrong with the line of this number, which so many bytes of the text stand before: more than 4,096 bytes, or
-- else an end past the first 67,108,864 bytes of the text.
abbrev pub line_fault : ℕ → ℕ → List ℕ → Option Refusal
line_fault number before raw =
    if nat_lt 4096 (length (without_feed raw)) then Some (Malformed number)
    else if nat_lt 67108864 (before + length raw) then Some StreamFault
    else None

-- Where a reader of lines stands: the bytes that it has read and not yet handed out, how many it has handed out, and how
-- many lines.
pub record Unread : Type 0 where
  pub pending : List ℕ
  pub taken : ℕ
  pub number : ℕ

-- the bytes that are not yet handed out, where those that the stream has left are known
abbrev pub ahead : Unread → Option (List ℕ) → Option (List ℕ)
ahead u left = prepend_known u.pending left

-- The first line of the text was handed out.
pub record HandedOut (text : List ℕ) (old new : Unread) (left : Option (List ℕ)) (line : List ℕ) : Type 0 where
  pub raw : List ℕ
  pub rest : List ℕ
  pub lines : raw_lines text ≡ raw ∷ raw_lines rest
  pub allowed : line_fault (old.number + 1) old.taken raw ≡ None
  pub line_is : line ≡ without_feed raw
  pub taken : new.taken ≡ old.taken + length raw
  pub ahead_is : ahead new left ≡ Some rest

-- The text has ended, and no line was left.
pub record HasEnded (text : List ℕ) (new : Unread) (left : Option (List ℕ)) : Type 0 where
  pub none : text ≡ []
  pub ahead_is : ahead new left ≡ Some []

-- The first line of the text is refused.
pub record IsRefused (text : List ℕ) (old : Unread) (refusal : Refusal) : Type 0 where
  pub raw : List ℕ
  pub rest : List (List ℕ)
  pub lines : raw_lines text ≡ raw ∷ rest
  pub fault : line_fault (old.number + 1) old.taken raw ≡ Some refusal

-- What a call of `next_line` makes of a text of known bytes. A stream fault may also be the reader's.
abbrev pub NextLine : List ℕ → Unread → Result Bool Refusal → Unread → Option (List ℕ) → List ℕ → Type 0
NextLine text old (Ok true) new left line = HandedOut text old new left line
NextLine text old (Ok false) new left line = HasEnded text new left
NextLine text old (Err StreamFault) new left line = Unit {0}
NextLine text old (Err (Malformed at)) new left line = IsRefused text old (Malformed at)
NextLine text old (Err refusal) new left line = ⊥

-- How a call of `next_line` moves the counts, at any reader: a line has one byte or more with its line feed.
abbrev pub Counts : Unread → Bool → Unread → Type 0
Counts old true new = (new.number ≡ old.number + 1) × (old.taken < new.taken) × (new.taken ≤ 67108864)
Counts old false new = (new.number ≡ old.number) × (new.taken ≡ old.taken)

-- what it is to count a line of so many bytes, its line feed among them
abbrev pub Counted : Unread → ℕ → Result Bool Refusal → Unread → Type 0
Counted old n (Ok true) new = (new ≡ record old { taken = old.taken + n; number = old.number + 1 }) × (0 < n) × (old.taken + n ≤ 67108864)
Counted old n (Ok false) new = (n ≡ 0) × (new ≡ old)
Counted old n (Err StreamFault) new = (0 < n) × (67108864 < old.taken + n)
Counted old n (Err refusal) new = ⊥

-- The line that comes next does not end within the first 67,108,864 bytes of the text. Nothing is said of a text of which no byte is known.
abbrev pub IsCutShort : Unread → Option (List ℕ) → Type 0
IsCutShort u left = IfSome left (λ known. IsRefused (u.pending ++ known) u StreamFault)

-- The text has more than 67,108,864 bytes: so many were handed out, and so many are ahead. Nothing is said of a text of which no byte is known.
abbrev pub IsTooLong : Unread → Option (List ℕ) → Type 0
IsTooLong u left = IfSome (ahead u left) (λ rest. 67108864 < u.taken + length rest)

-- the same of a text of which nothing was read
abbrev pub IsLongText : Option (List ℕ) → Type 0
IsLongText left = IfSome left (λ text. 67108864 < length text)

-- A call that reads a text answers a stream fault only where a stream has failed, or the text is too long; and any other answer leaves the
-- note as it was.
pub record NotesText {T : Type 0} (Long : Type 0) (old new : Bool) (result : Result T Refusal) : Type 0 where
  pub fault : result ≡ Err StreamFault → (new ≡ true) ⊎ Long
  pub fine : result ≢ Err StreamFault → new ≡ old
