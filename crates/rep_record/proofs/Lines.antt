-- How a line comes apart into words.
use Rattle.std.proofs.Common.{◌≡◌, ◌≢◌, ℕ, suc, ◌+◌, ◌<◌, ◌≤◌, Bool, true, false, cond, eqb, not, List, [], ◌∷◌, ◌++◌, length, get_or, take, drop, refl, sym, ap, ◌∙◌, add-one, arith, inl, inr}
use Rattle.std.specs.Prelude.{filter, ◌&&◌, ◌↔◌}
use Rattle.std.specs.Option.{unwrap_or}
use Rattle.std.specs.List.{position, position_or_len, slice_split, onto_first, after_first}
use Rattle.std.proofs.Math.Seq.{drop-cons}
use Rattle.std.proofs.lemmas.Bool.{ne_eqb, eqb-true, cases_lt, lt-ltb, le-ltb}
use Rattle.std.proofs.lemmas.List.{take_all, length-drop, nil_from_length}
use Rattle.std.proofs.lemmas.List.Sums.{prefix_len-le-length, passes_at_first, fails_before_first}
use Rattle.std.proofs.lemmas.List.Splits.{slice_split_first, slice_split_none}
use Rattle.rep_record.specs.Words.{words, is_filled, is_space, is_blank}

-- a line that doesn't begin with a space has something before the first one
begins_filled : (line : List ℕ) → 0 < length line → get_or line 0 0 ≢ 32 → is_filled (take (position_or_len is_space line) line) ≡ true
begins_filled [] some filled = absurd (omega arith)
begins_filled (b ∷ bs) some filled = let more : 1 + position_or_len is_space bs ≡ suc (position_or_len is_space bs) = omega arith in rw (ne_eqb b 32 filled, more) refl

-- the first piece is a word, where the line doesn't begin with a space
pub words_split : (line : List ℕ) → 0 < length line → get_or line 0 0 ≢ 32
    → words line ≡ take (position_or_len is_space line) line ∷ words (drop (position_or_len is_space line) line)
words_split line some filled =
    let p = position_or_len is_space line in
    elim (cases_lt p (length line)) [
      | inl lt ↦
          let rest : drop p line ≡ 32 ∷ after_first is_space line =
          drop-cons line p 0 lt ∙ rw (eqb-true (get_or line p 0) 32 (passes_at_first is_space line 0 lt), ← add-one p) refl in
          rw (slice_split_first is_space line 0 lt, rest, begins_filled line some filled) refl
      | inr ge ↦
          let one = slice_split_none is_space line (λ k d inside. fails_before_first is_space line k d (omega arith)) in
          let none : drop p line ≡ [] = nil_from_length (drop p line) (omega (arith, length-drop p line)) in
          let whole : is_filled line ≡ true = ap is_filled (sym (take_all p line (omega arith))) ∙ begins_filled line some filled in
          rw (one, none, take_all p line (omega arith), whole) refl
    ]

-- a byte that is no space makes a word
one_word : (b : ℕ) (pieces : List (List ℕ)) → filter is_filled (onto_first b pieces) ≡ [] → ⊥
one_word b [] e = absurd cc
one_word b (piece ∷ pieces) e = absurd cc

-- one byte more in front of a line
byte_more : (b : ℕ) (bs : List ℕ) (v : Bool) → (is_blank bs ≡ true ↔ (words bs ≡ []))
    → ((v && is_blank bs) ≡ true) ↔ (filter is_filled (cond v ([] ∷ slice_split is_space bs) (onto_first b (slice_split is_space bs))) ≡ [])
byte_more b bs true h = h
byte_more b bs false h = (λ e. absurd cc, λ e. absurd (one_word b (slice_split is_space bs) e))

-- a line has spaces alone where it has no words, and else not
pub no_words : (line : List ℕ) → (is_blank line ≡ true) ↔ (words line ≡ [])
no_words [] = (λ e. refl, λ e. refl)
no_words (b ∷ bs) = byte_more b bs (eqb b 32) (no_words bs)

-- the place of the first space, or the end
pub position_or_end : (line : List ℕ) → (unwrap_or (position is_space line) (length line) ≡ position_or_len is_space line) × (position_or_len is_space line ≤ length line)
position_or_end line =
    let n = position_or_len is_space line in
    let le : n ≤ length line = prefix_len-le-length (λ b. not (is_space b)) line in
    elim (cases_lt n (length line)) [
      | inl lt ↦ (rw (lt-ltb n (length line) lt) refl, le)
      | inr ge ↦ (rw (le-ltb n (length line) ge) (omega arith), le)
    ]

-- ---- a text without a mark

-- the mark doesn't stand there
abbrev pub IsFree : ℕ → List ℕ → Type 0
IsFree mark [] = Unit {0}
IsFree mark (b ∷ bs) = (eqb b mark ≡ false) × IsFree mark bs

-- the mark stands in neither of two texts, so not in both together
pub free_append : (mark : ℕ) (a b : List ℕ) → IsFree mark a → IsFree mark b → IsFree mark (a ++ b)
free_append mark [] b p q = q
free_append mark (x ∷ xs) b p q = (p.0, free_append mark xs b p.1 q)
