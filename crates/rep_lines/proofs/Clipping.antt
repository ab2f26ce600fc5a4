-- Texts whose long lines are clipped, and the lines of a text.
use Rattle.std.proofs.Common.{◌≡◌, ℕ, suc, zero, ◌+◌, ◌-◌, ◌<◌, Bool, true, false, List, [], ◌∷◌, ◌++◌, length, take, map, refl, sym, ap, ◌∙◌, arith}
use Rattle.std.specs.Prelude.{nat_lt, ◌||◌}
use Rattle.std.specs.List.{list_any}
use Rattle.std.proofs.lemmas.Bool.{ltb-true, ltb-false}
use Rattle.rep_lines.specs.Lines.{is_feed, HasNoFeed, onto_whole, whole_lines, unended, clipped_behind, clipped, kept_behind}

-- no byte of the list is a line feed, byte by byte
abbrev pub AreWithin : List ℕ → Type 0
AreWithin [] = Unit {0}
AreWithin (b ∷ bs) = (is_feed b ≡ false) × AreWithin bs

within_or : (b : ℕ) (bs : List ℕ) (t : Bool) → is_feed b ≡ t → (t || list_any is_feed bs) ≡ false → (HasNoFeed bs → AreWithin bs) → AreWithin (b ∷ bs)
within_or b bs true e h rest = absurd cc
within_or b bs false e h rest = (e, rest h)

pub are_within : (line : List ℕ) → HasNoFeed line → AreWithin line
are_within [] h = tt
are_within (b ∷ bs) h = within_or b bs (is_feed b) refl h (are_within bs)

pub has_none : (line : List ℕ) → AreWithin line → HasNoFeed line
has_none [] h = refl
has_none (b ∷ bs) h = rw h.0 (has_none bs h.1)

-- no byte can be taken of nothing
take_none : (n : ℕ) → take {A = ℕ} n [] ≡ []
take_none zero = refl
take_none (suc n) = refl

-- ---- clipping

-- the first bytes are clipped alone, and the others behind what is kept of them
clipped_step : (f n : Bool) (count b : ℕ) (bs ys : List ℕ) → is_feed b ≡ f → nat_lt count 8192 ≡ n →
    ((c : ℕ) → clipped_behind c (bs ++ ys) ≡ clipped_behind c bs ++ clipped_behind (kept_behind c bs) ys) →
    clipped_behind count ((b ∷ bs) ++ ys) ≡ clipped_behind count (b ∷ bs) ++ clipped_behind (kept_behind count (b ∷ bs)) ys
clipped_step true n count b bs ys e m rest = rw e (ap (λ l. b ∷ l) (rest 0))
clipped_step false true count b bs ys e m rest = rw (e, m) (ap (λ l. b ∷ l) (rest (count + 1)))
clipped_step false false count b bs ys e m rest = rw (e, m) (rest count)

pub clipped_append : (count : ℕ) (xs ys : List ℕ) → clipped_behind count (xs ++ ys) ≡ clipped_behind count xs ++ clipped_behind (kept_behind count xs) ys
clipped_append count [] ys = refl
clipped_append count (b ∷ bs) ys = clipped_step (is_feed b) (nat_lt count 8192) count b bs ys refl refl (λ c. clipped_append c bs ys)

-- what is kept behind two parts
kept_step : (f n : Bool) (count b : ℕ) (bs ys : List ℕ) → is_feed b ≡ f → nat_lt count 8192 ≡ n →
    ((c : ℕ) → kept_behind c (bs ++ ys) ≡ kept_behind (kept_behind c bs) ys) →
    kept_behind count ((b ∷ bs) ++ ys) ≡ kept_behind (kept_behind count (b ∷ bs)) ys
kept_step true n count b bs ys e m rest = rw e (rest 0)
kept_step false true count b bs ys e m rest = rw (e, m) (rest (count + 1))
kept_step false false count b bs ys e m rest = rw (e, m) (rest count)

pub kept_append : (count : ℕ) (xs ys : List ℕ) → kept_behind count (xs ++ ys) ≡ kept_behind (kept_behind count xs) ys
kept_append count [] ys = refl
kept_append count (b ∷ bs) ys = kept_step (is_feed b) (nat_lt count 8192) count b bs ys refl refl (λ c. kept_append c bs ys)

-- clipping leaves what is kept
kept_clipped_step : (f n : Bool) (count b : ℕ) (bs : List ℕ) → is_feed b ≡ f → nat_lt count 8192 ≡ n →
    ((c : ℕ) → kept_behind c (clipped_behind c bs) ≡ kept_behind c bs) →
    kept_behind count (clipped_behind count (b ∷ bs)) ≡ kept_behind count (b ∷ bs)
kept_clipped_step true n count b bs e m rest = rw (e, e) (rest 0)
kept_clipped_step false true count b bs e m rest = rw (e, m, e, m) (rest (count + 1))
kept_clipped_step false false count b bs e m rest = rw (e, m) (rest count)

pub kept_clipped : (count : ℕ) (xs : List ℕ) → kept_behind count (clipped_behind count xs) ≡ kept_behind count xs
kept_clipped count [] = refl
kept_clipped count (b ∷ bs) = kept_clipped_step (is_feed b) (nat_lt count 8192) count b bs refl refl (λ c. kept_clipped c bs)

-- within one line so many more bytes are kept
clipped_line_step : (n : Bool) (count b : ℕ) (bs : List ℕ) → nat_lt count 8192 ≡ n → is_feed b ≡ false →
    ((c : ℕ) → clipped_behind c bs ≡ take (8192 - c) bs) → clipped_behind count (b ∷ bs) ≡ take (8192 - count) (b ∷ bs)
clipped_line_step true count b bs m e rest =
    let more : 8192 - count ≡ suc (8192 - (count + 1)) = omega (arith, ltb-true count 8192 m) in
    rw (e, m, more) (ap (λ l. b ∷ l) (rest (count + 1)))
clipped_line_step false count b bs m e rest =
    let none : 8192 - count ≡ 0 = omega (arith, ltb-false count 8192 m) in
    rw (e, m, none) (rest count ∙ ap (λ k. take k bs) none)

pub clipped_line : (count : ℕ) (line : List ℕ) → AreWithin line → clipped_behind count line ≡ take (8192 - count) line
clipped_line count [] within = sym (take_none (8192 - count))
clipped_line count (b ∷ bs) within = clipped_line_step (nat_lt count 8192) count b bs refl within.0 (λ c. clipped_line c bs within.1)

-- a line with its line feed
pub clipped_first : (line rest : List ℕ) → AreWithin line → clipped (line ++ 10 ∷ rest) ≡ take 8192 line ++ 10 ∷ clipped rest
clipped_first line rest within = clipped_append 0 line (10 ∷ rest) ∙ ap (λ l. l ++ 10 ∷ clipped rest) (clipped_line 0 line within)

-- nothing is clipped to nothing, and something to something
pub empty_clipped : (raw : List ℕ) → length raw ≡ 0 → clipped raw ≡ []
empty_clipped [] none = refl
empty_clipped (b ∷ bs) none = absurd (omega (arith, none))

some_step : (f : Bool) (b : ℕ) (bs : List ℕ) → is_feed b ≡ f → 0 < length (clipped (b ∷ bs))
some_step true b bs e = rw e (omega arith)
some_step false b bs e = rw e (omega arith)

pub some_clipped : (raw : List ℕ) → 0 < length raw → 0 < length (clipped raw)
some_clipped [] some = absurd (omega (arith, some))
some_clipped (b ∷ bs) some = some_step (is_feed b) b bs refl

-- a byte that stays or goes is a line feed or none, as before
any_step : (f n : Bool) (count b : ℕ) (bs : List ℕ) → is_feed b ≡ f → nat_lt count 8192 ≡ n →
    ((c : ℕ) → list_any is_feed (clipped_behind c bs) ≡ list_any is_feed bs) → list_any is_feed (clipped_behind count (b ∷ bs)) ≡ list_any is_feed (b ∷ bs)
any_step true n count b bs e m rest = rw (e, e) refl
any_step false true count b bs e m rest = rw (e, m, e) (rest (count + 1))
any_step false false count b bs e m rest = rw (e, m) (rest count)

pub any_clipped : (count : ℕ) (xs : List ℕ) → list_any is_feed (clipped_behind count xs) ≡ list_any is_feed xs
any_clipped count [] = refl
any_clipped count (b ∷ bs) = any_step (is_feed b) (nat_lt count 8192) count b bs refl refl (λ c. any_clipped c bs)

-- ---- the lines of a text

-- a line with its line feed is the first one
pub first_line : (line rest : List ℕ) → AreWithin line → whole_lines (line ++ 10 ∷ rest) ≡ line ∷ whole_lines rest
first_line [] rest within = refl
first_line (b ∷ bs) rest within = rw (within.0, first_line bs rest within.1) refl

-- what has no line feed has no whole line
pub no_line : (text : List ℕ) → AreWithin text → whole_lines text ≡ []
no_line [] within = refl
no_line (b ∷ bs) within = rw (within.0, no_line bs within.1) refl

-- a line feed stands behind the line
pub any_fed : (line rest : List ℕ) → AreWithin line → list_any is_feed (line ++ 10 ∷ rest) ≡ true
any_fed [] rest within = refl
any_fed (b ∷ bs) rest within = rw within.0 (any_fed bs rest within.1)

-- what stands behind the last line feed stands behind the first line too
pub unended_behind : (line rest : List ℕ) → AreWithin line → unended (line ++ 10 ∷ rest) ≡ unended rest
unended_behind [] rest within = refl
unended_behind (b ∷ bs) rest within = rw (within.0, any_fed bs rest within.1) (unended_behind bs rest within.1)

-- all of what has no line feed
pub unended_all : (text : List ℕ) → HasNoFeed text → unended text ≡ text
unended_all [] none = refl
unended_all (b ∷ bs) none = rw none refl

-- ---- the lines of a clipped text

-- the first of these lines cut where so many bytes of it stand before, and the others cut
abbrev pub cut_lines : ℕ → List (List ℕ) → List (List ℕ)
cut_lines count [] = []
cut_lines count (line ∷ lines) = take (8192 - count) line ∷ map (take 8192) lines

cut_whole : (lines : List (List ℕ)) → cut_lines 0 lines ≡ map (take 8192) lines
cut_whole [] = refl
cut_whole (line ∷ lines) = refl

cut_onto : (count b : ℕ) (lines : List (List ℕ)) → nat_lt count 8192 ≡ true → onto_whole b (cut_lines (count + 1) lines) ≡ cut_lines count (onto_whole b lines)
cut_onto count b [] m = refl
cut_onto count b (line ∷ lines) m =
    let more : 8192 - count ≡ suc (8192 - (count + 1)) = omega (arith, ltb-true count 8192 m) in
    rw more refl

cut_past : (count b : ℕ) (lines : List (List ℕ)) → nat_lt count 8192 ≡ false → cut_lines count lines ≡ cut_lines count (onto_whole b lines)
cut_past count b [] m = refl
cut_past count b (line ∷ lines) m =
    let none : 8192 - count ≡ 0 = omega (arith, ltb-false count 8192 m) in
    rw none refl

lines_step : (f n : Bool) (count b : ℕ) (bs : List ℕ) → is_feed b ≡ f → nat_lt count 8192 ≡ n →
    ((c : ℕ) → whole_lines (clipped_behind c bs) ≡ cut_lines c (whole_lines bs)) → whole_lines (clipped_behind count (b ∷ bs)) ≡ cut_lines count (whole_lines (b ∷ bs))
lines_step true n count b bs e m rest = rw (e, e, take_none (8192 - count)) (ap (λ ls. [] ∷ ls) (rest 0 ∙ cut_whole (whole_lines bs)))
lines_step false true count b bs e m rest = rw (e, m, e, rest (count + 1)) (cut_onto count b (whole_lines bs) m)
lines_step false false count b bs e m rest = rw (e, m, rest count) (cut_past count b (whole_lines bs) m)

lines_behind : (count : ℕ) (text : List ℕ) → whole_lines (clipped_behind count text) ≡ cut_lines count (whole_lines text)
lines_behind count [] = refl
lines_behind count (b ∷ bs) = lines_step (is_feed b) (nat_lt count 8192) count b bs refl refl (λ c. lines_behind c bs)

pub lines_clipped : (text : List ℕ) → whole_lines (clipped text) ≡ map (take 8192) (whole_lines text)
lines_clipped text = lines_behind 0 text ∙ cut_whole (whole_lines text)

-- what stands behind the last line feed, where there is none
unended_within : (text : List ℕ) → HasNoFeed text → unended (clipped text) ≡ take 8192 (unended text)
unended_within text none =
    let within = are_within text none in
    unended_all (clipped text) (any_clipped 0 text ∙ none) ∙ clipped_line 0 text within ∙ ap (take 8192) (sym (unended_all text none))

-- the same where there is one
unended_step : (f n a : Bool) (count b : ℕ) (bs : List ℕ) → is_feed b ≡ f → nat_lt count 8192 ≡ n → list_any is_feed bs ≡ a → (f || a) ≡ true →
    ((c : ℕ) → list_any is_feed bs ≡ true → unended (clipped_behind c bs) ≡ take 8192 (unended bs)) →
    unended (clipped_behind count (b ∷ bs)) ≡ take 8192 (unended (b ∷ bs))
unended_step true n true count b bs e m is some rest = rw (e, e) (rest 0 is)
unended_step true n false count b bs e m is some rest = rw (e, e) (unended_within bs is)
unended_step false true true count b bs e m is some rest = rw (e, m, e, any_clipped (count + 1) bs, is) (rest (count + 1) is)
unended_step false false true count b bs e m is some rest = rw (e, m, is) (rest count is)
unended_step false n false count b bs e m is some rest = absurd cc

unended_fed : (count : ℕ) (text : List ℕ) → list_any is_feed text ≡ true → unended (clipped_behind count text) ≡ take 8192 (unended text)
unended_fed count [] some = absurd cc
unended_fed count (b ∷ bs) some =
    unended_step (is_feed b) (nat_lt count 8192) (list_any is_feed bs) count b bs refl refl refl some (λ c h. unended_fed c bs h)

unended_either : (text : List ℕ) (a : Bool) → list_any is_feed text ≡ a → unended (clipped text) ≡ take 8192 (unended text)
unended_either text true some = unended_fed 0 text some
unended_either text false none = unended_within text none

pub unended_clipped : (text : List ℕ) → unended (clipped text) ≡ take 8192 (unended text)
unended_clipped text = unended_either text (list_any is_feed text) refl
