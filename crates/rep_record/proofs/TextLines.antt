-- What is left of a buffer, what the lines of a text are, and what a call that hands one out makes of it.
use Rattle.std.proofs.Common.{◌≡◌, ℕ, suc, ◌+◌, ◌-◌, ◌<◌, ◌≤◌, Bool, true, false, eqb, List, [], ◌∷◌, ◌++◌, length, get_or, slice_range, Option, None, Some, refl, sym, ap, ◌∙◌, arith, add-one, inl, inr, IfSome, Result, Ok, Err, append_assoc, append-nil, length-append}
use Rattle.std.proofs.Math.Seq.{drop-cons}
use Rattle.std.specs.Io.KnownBytes.{Keeps, Consumes, prepend_known, IsAtEnd}
use Rattle.std.proofs.lemmas.Bool.{eqb-true, le-ltb, lt-ltb, ltb-true}
use Rattle.std.specs.Prelude.{nat_lt}
use Rattle.std.specs.List.{onto_first, flat_map}
use Rattle.rep_record.proofs.Lines.{IsFree, free_append}
use Rattle.rep_record.specs.Lines.{raw_lines, without_feed, EndsAtFeed, AreFed, AreLines, Unread, ahead, HandedOut, IsRefused, NextLine, Counted, IsCutShort, IsTooLong}
use Rattle.rep_types.specs.declared.refusal.Refusal.{Refusal}
use Rattle.rep_types.specs.declared.refusal.Refusal.TheVariants.{Malformed, StreamFault}

-- a part of a buffer begins with its first byte
pub range_first : (buffer : List ℕ) (start end : ℕ) → start < end → end ≤ length buffer →
    slice_range buffer start end ≡ get_or buffer start 0 ∷ slice_range buffer (start + 1) end
range_first buffer start end some within =
    let here : start < length buffer = omega arith in
    let more : end - start ≡ suc (end - (start + 1)) = omega arith in
    rw (more, drop-cons buffer start 0 here, ← add-one start) refl

-- the first byte of the buffer is handed out
pub byte_taken : (buffer : List ℕ) (start end : ℕ) (old left : Option (List ℕ)) → start < end → end ≤ length buffer →
    Keeps old (prepend_known (slice_range buffer start end) left) →
    Consumes old (prepend_known (slice_range buffer (start + 1) end) left) (get_or buffer start 0 ∷ [])
byte_taken buffer start end None left some within kept = tt
byte_taken buffer start end (Some x) None some within kept = absurd kept
byte_taken buffer start end (Some x) (Some y) some within kept = sym kept ∙ ap (λ l. l ++ y) (range_first buffer start end some within)

-- no byte of the list is a line feed
abbrev pub HasNoFeed : List ℕ → Type 0
HasNoFeed xs = IsFree 10 xs

-- one more byte that is no line feed
pub no_feed_more : (xs : List ℕ) (b : ℕ) → HasNoFeed xs → eqb b 10 ≡ false → HasNoFeed (xs ++ b ∷ [])
no_feed_more xs b none other = free_append 10 xs (b ∷ []) none (other, tt)

-- a line is what stands before its line feed
pub fed_without : (xs : List ℕ) → HasNoFeed xs → without_feed (xs ++ 10 ∷ []) ≡ xs
fed_without [] none = refl
fed_without (x ∷ xs) none = rw (none.0, fed_without xs none.1) refl

-- a line that lacks its line feed is itself
pub last_without : (xs : List ℕ) → HasNoFeed xs → without_feed xs ≡ xs
last_without [] none = refl
last_without (x ∷ xs) none = rw (none.0, last_without xs none.1) refl

-- a line ends at its line feed
pub fed_lines : (xs rest : List ℕ) → HasNoFeed xs → raw_lines (xs ++ 10 ∷ rest) ≡ (xs ++ 10 ∷ []) ∷ raw_lines rest
fed_lines [] rest none = refl
fed_lines (x ∷ xs) rest none = rw (none.0, fed_lines xs rest none.1) refl

-- what has no line feed is the last line
pub last_lines : (x : ℕ) (xs : List ℕ) → HasNoFeed (x ∷ xs) → raw_lines (x ∷ xs) ≡ (x ∷ xs) ∷ []
last_lines x [] none = rw none.0 refl
last_lines x (y ∷ ys) none = rw (none.0, last_lines y ys none.1) refl

-- how many bytes the first line has, its line feed not counted
abbrev pub first_length : List (List ℕ) → ℕ
first_length [] = 0
first_length (raw ∷ rest) = length (without_feed raw)

-- a byte that is no line feed makes the first line longer
pub first_longer : (b : ℕ) (lines : List (List ℕ)) → eqb b 10 ≡ false → first_length (onto_first b lines) ≡ suc (first_length lines)
first_longer b [] other = rw other refl
first_longer b (raw ∷ rest) other = rw other refl

-- the first line is as long as what has no line feed at the text's front
pub first_covers : (xs more : List ℕ) → HasNoFeed xs → length xs ≤ first_length (raw_lines (xs ++ more))
first_covers [] more none = omega arith
first_covers (x ∷ xs) more none =
    let shorter = first_covers xs more none.1 in
    rw (none.0, first_longer x (raw_lines (xs ++ more)) none.0) (omega arith)

-- a line feed is a line of its own before the others
pub fed_on : (b : ℕ) (text : List ℕ) (lines : List (List ℕ)) → eqb b 10 ≡ true → AreLines text lines → AreLines (b ∷ text) ((b ∷ []) ∷ lines)
fed_on b text lines e are = record {
  whole = ap (λ l. b ∷ l) are.whole;
  filled = (omega arith, are.filled);
  at_end = (inr alone, are.at_end);
  fed = fed_first lines are.fed;
}
  where
    alone : b ∷ [] ≡ without_feed (b ∷ []) ++ 10 ∷ []
    alone = rw e (ap (λ k. k ∷ []) (eqb-true b 10 e))

    fed_first : (ls : List (List ℕ)) → AreFed ls → AreFed ((b ∷ []) ∷ ls)
    fed_first [] fed = tt
    fed_first (line ∷ ls) fed = (alone, fed)

-- any other byte goes to the front of the first line
pub other_on : (b : ℕ) (text : List ℕ) (lines : List (List ℕ)) → eqb b 10 ≡ false → AreLines text lines → AreLines (b ∷ text) (onto_first b lines)
other_on b text [] e are = record {
  whole = ap (λ l. b ∷ l) are.whole;
  filled = (omega arith, tt);
  at_end = (inl (rw e refl), tt);
  fed = tt;
}
other_on b text (line ∷ lines) e are = record {
  whole = ap (λ l. b ∷ l) are.whole;
  filled = (omega arith, are.filled.1);
  at_end = (longer are.at_end.0, are.at_end.1);
  fed = fed_first lines are.fed;
}
  where
    longer : EndsAtFeed line → EndsAtFeed (b ∷ line)
    longer (inl same) = inl (rw e (ap (λ l. b ∷ l) same))
    longer (inr same) = inr (rw e (ap (λ l. b ∷ l) same))

    fed_first : (ls : List (List ℕ)) → AreFed (line ∷ ls) → AreFed ((b ∷ line) ∷ ls)
    fed_first [] fed = tt
    fed_first (next ∷ ls) fed = (rw e (ap (λ l. b ∷ l) fed.0), fed.1)

-- one more byte at the text's front
pub lines_on : (b : ℕ) (text : List ℕ) (t : Bool) → eqb b 10 ≡ t → AreLines text (raw_lines text) → AreLines (b ∷ text) (raw_lines (b ∷ text))
lines_on b text true e are = rw e (fed_on b text (raw_lines text) e are)
lines_on b text false e are = rw e (other_on b text (raw_lines text) e are)

-- the lines of a text are its lines
pub are_lines : (text : List ℕ) → AreLines text (raw_lines text)
are_lines [] = record { whole = refl; filled = tt; at_end = tt; fed = tt }
are_lines (b ∷ text) = lines_on b text (eqb b 10) refl (are_lines text)

-- ---- a call that hands out a line

-- the text's first line is handed out
pub handed : (text raw rest line : List ℕ) (old mid new : Unread) (left : Option (List ℕ)) →
    raw_lines text ≡ raw ∷ raw_lines rest → without_feed raw ≡ line → length line ≤ 4096 → ahead mid left ≡ Some rest →
    mid.taken ≡ old.taken → Counted mid (length raw) (Ok true) new → HandedOut text old new left line
handed text raw rest line old mid new left lines e short left_is taken (counted, some, within) = record {
  raw = raw;
  rest = rest;
  lines = lines;
  allowed = rw (e, le-ltb 4096 (length line) short, le-ltb 67108864 (old.taken + length raw) (omega arith)) refl;
  line_is = sym e;
  taken = ap (λ u. u.taken) counted ∙ ap (λ n. n + length raw) taken;
  ahead_is = rw counted left_is;
}

-- a line with its line feed
pub fed_next : (old mid new : Unread) (start left : Option (List ℕ)) (line : List ℕ) (r : Result Bool Refusal) →
    Consumes (ahead old start) (ahead mid left) (line ++ 10 ∷ []) → HasNoFeed line → length line ≤ 4096 → mid.taken ≡ old.taken →
    Counted mid (length line + 1) r new → IfSome start (λ known. NextLine (old.pending ++ known) old r new left line)
fed_next old mid new None left line r consumed none short taken counted = tt
fed_next old mid new (Some known) None line r consumed none short taken counted = absurd consumed
fed_next old mid new (Some known) (Some y) line (Ok true) consumed none short taken counted =
    let lines : raw_lines (old.pending ++ known) ≡ (line ++ 10 ∷ []) ∷ raw_lines (mid.pending ++ y) =
    rw (consumed, append_assoc line (10 ∷ []) (mid.pending ++ y)) (fed_lines line (mid.pending ++ y) none) in
    let same : length line + 1 ≡ length (line ++ 10 ∷ []) = sym (length-append line (10 ∷ [])) in
    handed (old.pending ++ known) (line ++ 10 ∷ []) (mid.pending ++ y) line old mid new (Some y) lines (fed_without line none) short refl taken (rw same at counted)
fed_next old mid new (Some known) (Some y) line (Ok false) consumed none short taken counted = absurd (omega (arith, counted.0))
fed_next old mid new (Some known) (Some y) line (Err StreamFault) consumed none short taken counted = tt
fed_next old mid new (Some known) (Some y) line (Err refusal) consumed none short taken counted = absurd counted

-- the last line, where it lacks its line feed, or no line
pub last_next : (old mid new : Unread) (start left : Option (List ℕ)) (line : List ℕ) (r : Result Bool Refusal) →
    Consumes (ahead old start) (ahead mid left) line → IsAtEnd (ahead mid left) → HasNoFeed line → length line ≤ 4096 → mid.taken ≡ old.taken →
    Counted mid (length line) r new → IfSome start (λ known. NextLine (old.pending ++ known) old r new left line)
last_next old mid new None left line r consumed end none short taken counted = tt
last_next old mid new (Some known) None line r consumed end none short taken counted = absurd consumed
last_next old mid new (Some known) (Some y) (b ∷ bs) (Ok true) consumed end none short taken counted =
    let whole : old.pending ++ known ≡ b ∷ bs = consumed ∙ ap (λ l. (b ∷ bs) ++ l) end ∙ append-nil (b ∷ bs) in
    let lines : raw_lines (old.pending ++ known) ≡ (b ∷ bs) ∷ raw_lines [] = rw whole (last_lines b bs none) in
    handed (old.pending ++ known) (b ∷ bs) [] (b ∷ bs) old mid new (Some y) lines (last_without (b ∷ bs) none) short (ap Some end) taken counted
last_next old mid new (Some known) (Some y) [] (Ok true) consumed end none short taken counted = absurd (omega (arith, counted.1))
last_next old mid new (Some known) (Some y) (b ∷ bs) (Ok false) consumed end none short taken counted = absurd (omega (arith, counted.0))
last_next old mid new (Some known) (Some y) [] (Ok false) consumed end none short taken counted =
    record { none = consumed ∙ end; ahead_is = rw counted.1 (ap Some end) }
last_next old mid new (Some known) (Some y) line (Err StreamFault) consumed end none short taken counted = tt
last_next old mid new (Some known) (Some y) line (Err refusal) consumed end none short taken counted = absurd counted

-- a line that is full and goes on
pub long_next : (old mid : Unread) (start left : Option (List ℕ)) (line : List ℕ) (b : ℕ) →
    Consumes (ahead old start) (ahead mid left) (line ++ b ∷ []) → HasNoFeed line → eqb b 10 ≡ false → length line ≡ 4096 →
    IfSome start (λ known. IsRefused (old.pending ++ known) old (Malformed (old.number + 1)))
long_next old mid None left line b consumed none other full = tt
long_next old mid (Some known) None line b consumed none other full = absurd consumed
long_next old mid (Some known) (Some y) line b consumed none other full =
    refused (raw_lines (old.pending ++ known)) refl
    (rw consumed (omega (arith, first_covers (line ++ b ∷ []) (mid.pending ++ y) (no_feed_more line b none other), length-append line (b ∷ []))))
  where
    refused : (lines : List (List ℕ)) → raw_lines (old.pending ++ known) ≡ lines → 4096 < first_length lines →
        IsRefused (old.pending ++ known) old (Malformed (old.number + 1))
    refused [] e long = absurd (omega arith)
    refused (raw ∷ rest) e long = record { raw = raw; rest = rest; lines = e; fault = rw (lt-ltb 4096 (length (without_feed raw)) long) refl }

-- ---- a line that does not end within the limit of a text

-- a text is no shorter than its first line
first_within : (text raw : List ℕ) (rest : List (List ℕ)) → raw_lines text ≡ raw ∷ rest → length raw ≤ length text
first_within text raw rest lines =
    let whole : flat_map (λ (line : List ℕ). line) (raw ∷ rest) ≡ text = ap (flat_map (λ (line : List ℕ). line)) (sym lines) ∙ (are_lines text).whole in
    omega (arith, ap length whole, length-append raw (flat_map (λ (line : List ℕ). line) rest))

-- a line with its line feed
pub fed_cut : (old mid new : Unread) (start left : Option (List ℕ)) (line : List ℕ) (r : Result Bool Refusal) →
    Consumes (ahead old start) (ahead mid left) (line ++ 10 ∷ []) → HasNoFeed line → length line ≤ 4096 → mid.taken ≡ old.taken →
    Counted mid (length line + 1) r new → r ≡ Err StreamFault → IsCutShort old start
fed_cut old mid new None left line r consumed none short taken counted e = tt
fed_cut old mid new (Some known) None line r consumed none short taken counted e = absurd consumed
fed_cut old mid new (Some known) (Some y) line (Ok b) consumed none short taken counted e = absurd cc
fed_cut old mid new (Some known) (Some y) line (Err StreamFault) consumed none short taken counted e =
    let lines : raw_lines (old.pending ++ known) ≡ (line ++ 10 ∷ []) ∷ raw_lines (mid.pending ++ y) =
    rw (consumed, append_assoc line (10 ∷ []) (mid.pending ++ y)) (fed_lines line (mid.pending ++ y) none) in
    let long : 67108864 < old.taken + length (line ++ 10 ∷ []) = omega (arith, counted.1, taken, length-append line (10 ∷ [])) in
    record {
      raw = line ++ 10 ∷ [];
      rest = raw_lines (mid.pending ++ y);
      lines = lines;
      fault = rw (fed_without line none, le-ltb 4096 (length line) short, lt-ltb 67108864 (old.taken + length (line ++ 10 ∷ [])) long) refl;
    }
fed_cut old mid new (Some known) (Some y) line (Err refusal) consumed none short taken counted e = absurd counted

-- the last line, where it lacks its line feed
pub last_cut : (old mid new : Unread) (start left : Option (List ℕ)) (line : List ℕ) (r : Result Bool Refusal) →
    Consumes (ahead old start) (ahead mid left) line → IsAtEnd (ahead mid left) → HasNoFeed line → length line ≤ 4096 → mid.taken ≡ old.taken →
    Counted mid (length line) r new → r ≡ Err StreamFault → IsCutShort old start
last_cut old mid new None left line r consumed end none short taken counted e = tt
last_cut old mid new (Some known) None line r consumed end none short taken counted e = absurd consumed
last_cut old mid new (Some known) (Some y) line (Ok b) consumed end none short taken counted e = absurd cc
last_cut old mid new (Some known) (Some y) [] (Err StreamFault) consumed end none short taken counted e = absurd (omega (arith, counted.0))
last_cut old mid new (Some known) (Some y) (b ∷ bs) (Err StreamFault) consumed end none short taken counted e =
    let whole : old.pending ++ known ≡ b ∷ bs = consumed ∙ ap (λ l. (b ∷ bs) ++ l) end ∙ append-nil (b ∷ bs) in
    let long : 67108864 < old.taken + length (b ∷ bs) = omega (arith, counted.1, taken) in
    record {
      raw = b ∷ bs;
      rest = [];
      lines = rw whole (last_lines b bs none);
      fault = rw (last_without (b ∷ bs) none, le-ltb 4096 (length (b ∷ bs)) short, lt-ltb 67108864 (old.taken + length (b ∷ bs)) long) refl;
    }
last_cut old mid new (Some known) (Some y) line (Err refusal) consumed end none short taken counted e = absurd counted

-- a text whose line does not end within the limit is longer
refused_long : (text : List ℕ) (u : Unread) → (r : IsRefused text u StreamFault) → (long full : Bool) → nat_lt 4096 (length (without_feed r.raw)) ≡ long →
    nat_lt 67108864 (u.taken + length r.raw) ≡ full → 67108864 < u.taken + length text
refused_long text u r true full is ends =
    let other : Some (Malformed (u.number + 1)) ≡ Some StreamFault = rw is at r.fault in absurd cc
refused_long text u r false false is ends =
    let other : None ≡ Some StreamFault = rw (is, ends) at r.fault in absurd cc
refused_long text u r false true is ends =
    omega (arith, ltb-true 67108864 (u.taken + length r.raw) ends, first_within text r.raw r.rest r.lines)

pub cut_long : (u : Unread) (left : Option (List ℕ)) → IsCutShort u left → IsTooLong u left
cut_long u None r = tt
cut_long u (Some known) r = refused_long (u.pending ++ known) u r _ _ refl refl
