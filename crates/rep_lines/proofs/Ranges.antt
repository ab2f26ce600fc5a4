-- Parts of a buffer.
use Rattle.std.proofs.Common.{◌≡◌, ℕ, suc, zero, ◌+◌, ◌-◌, ◌<◌, ◌≤◌, Bool, true, false, List, [], ◌∷◌, ◌++◌, length, take, drop, Some, refl, sym, ap, ◌∙◌, arith, slice_range, min, length-drop}
use Rattle.std.proofs.lemmas.List.{take_all, take-take, length-take, drop-drop, drop-take}
use Rattle.std.proofs.Math.Seq.{take-add}
use Rattle.std.specs.Prelude.{nat_lt}
use Rattle.std.specs.List.{position, copy_within}
use Rattle.std.proofs.lemmas.List.Edits.{take-paste}
use Rattle.std.proofs.lemmas.Bool.{ltb-true, ltb-false}
use Rattle.rep_lines.specs.Lines.{is_feed, HasNoFeed, clipped}
use Rattle.rep_lines.proofs.Clipping.{AreWithin, are_within, has_none, clipped_line, clipped_first}
use Rattle.rep_lines.proofs.Places.{found}

-- a range at the front
pub range_front : (buffer : List ℕ) (n : ℕ) → slice_range buffer 0 n ≡ take n buffer
range_front buffer n = let same : n - 0 ≡ n = omega arith in ap (λ k. take k buffer) same

-- a range behind the front
pub range_more : (buffer : List ℕ) (n count : ℕ) → slice_range buffer 0 (n + count) ≡ take n buffer ++ take count (drop n buffer)
range_more buffer n count = range_front buffer (n + count) ∙ take-add n count buffer

-- what is within a line has no line feed in any front
within_take : (n : ℕ) (line : List ℕ) → AreWithin line → AreWithin (take n line)
within_take zero line within = tt
within_take (suc n) [] within = tt
within_take (suc n) (b ∷ bs) within = (within.0, within_take n bs within.1)

-- what is handed out of a line that has no end yet is clipped as the line is
pub front_same : (raw front : List ℕ) → HasNoFeed raw → front ≡ take 8192 raw → clipped front ≡ clipped raw
front_same raw front none is =
    let within = are_within raw none in
    let short : length (take 8192 raw) ≤ 8192 = omega (arith, length-take 8192 raw) in
    ap clipped is ∙ clipped_line 0 (take 8192 raw) (within_take 8192 raw within) ∙ take_all 8192 (take 8192 raw) short ∙ sym (clipped_line 0 raw within)

-- what stands behind a first part of a range
range_behind : (buffer : List ℕ) (start end n : ℕ) → n ≤ end - start → drop n (slice_range buffer start end) ≡ slice_range buffer (start + n) end
range_behind buffer start end n within =
    let more : end - start ≡ n + (end - (start + n)) = omega (arith, within) in
    ap (λ k. drop n (take k (drop start buffer))) more ∙ drop-take n (end - (start + n)) (drop start buffer) ∙ ap (take (end - (start + n))) (drop-drop n start buffer)

-- The first line feed of a range stands behind so many bytes: of these the first are handed out, and the rest of the range stays.
pub line_taken : (buffer : List ℕ) (start end p kept : ℕ) → start ≤ end → end ≤ length buffer → position is_feed (slice_range buffer start end) ≡ Some p → kept ≡ min p 8192 →
    (clipped (slice_range buffer start end) ≡ slice_range buffer start (start + kept) ++ 10 ∷ clipped (slice_range buffer (start + (p + 1)) end)) × HasNoFeed (slice_range buffer start (start + kept))
line_taken buffer start end p kept order within at is =
    let raw = slice_range buffer start end in
    let parts = found raw p at in
    let size : length raw ≡ min (end - start) (length buffer - start) = length-take (end - start) (drop start buffer) ∙ ap (min (end - start)) (length-drop start buffer) in
    let less : p < end - start = omega (arith, size, parts.0) in
    let few : min p 8192 ≤ p = omega arith in
    let exact : (start + kept) - start ≡ min p 8192 = omega (arith, is) in
    let front : slice_range buffer start (start + kept) ≡ take (min p 8192) raw =
    ap (λ k. take k (drop start buffer)) exact ∙ sym (take-take (min p 8192) (end - start) (drop start buffer) (omega (arith, less, few))) in
    let long : length (take p raw) ≡ p = omega (arith, length-take p raw, parts.0) in
    let cut : take 8192 (take p raw) ≡ take (min p 8192) raw = cut_line p raw long in
    let behind : drop (suc p) raw ≡ slice_range buffer (start + (p + 1)) end = ap (λ k. drop k raw) same ∙ range_behind buffer start end (p + 1) (omega (arith, less)) in (
      ap clipped parts.2 ∙ clipped_first (take p raw) (drop (suc p) raw) parts.1 ∙ ap (λ l. l ++ 10 ∷ clipped (drop (suc p) raw)) (cut ∙ sym front) ∙ ap (λ l. slice_range buffer start (start + kept) ++ 10 ∷ clipped l) behind,
      rw front (has_none (take (min p 8192) raw) (rw (← cut) (within_take 8192 (take p raw) parts.1))),
    )
  where
    same : suc p ≡ p + 1
    same = omega arith

    cut_by : (t : Bool) (p : ℕ) (raw : List ℕ) → nat_lt p 8192 ≡ t → length (take p raw) ≡ p → take 8192 (take p raw) ≡ take (min p 8192) raw
    cut_by true p raw less long =
        let few = ltb-true p 8192 less in
        let same : min p 8192 ≡ p = omega (arith, few) in
        take_all 8192 (take p raw) (omega (arith, few, long)) ∙ ap (λ k. take k raw) (sym same)
    cut_by false p raw less long =
        let many = ltb-false p 8192 less in
        let same : min p 8192 ≡ 8192 = omega (arith, many) in
        take-take 8192 p raw many ∙ ap (λ k. take k raw) (sym same)

    cut_line : (p : ℕ) (raw : List ℕ) → length (take p raw) ≡ p → take 8192 (take p raw) ≡ take (min p 8192) raw
    cut_line p raw long = cut_by (nat_lt p 8192) p raw refl long

-- what was moved to the front is as much of the range as of a line is kept
pub moved : (buffer : List ℕ) (start end count : ℕ) → start ≤ end → end ≤ length buffer → count ≡ min (end - start) 8192 →
    take count (copy_within buffer start end 0) ≡ take 8192 (slice_range buffer start end)
moved buffer start end count order within is =
    let room : end - start ≤ length (drop start buffer) = omega (arith, within, length-drop start buffer) in
    let whole : take (0 + (end - start)) (copy_within buffer start end 0) ≡ take 0 buffer ++ take (end - start) (drop start buffer) = take-paste buffer 0 (drop start buffer) (end - start) (omega arith) room in
    let few : count ≤ 0 + (end - start) = omega (arith, is) in
    let size : length (slice_range buffer start end) ≡ end - start = length-take (end - start) (drop start buffer) ∙ least (end - start) (length (drop start buffer)) room in
    sym (take-take count (0 + (end - start)) (copy_within buffer start end 0) few) ∙ ap (take count) whole ∙ ap (λ k. take k (slice_range buffer start end)) is
    ∙ either (nat_lt (end - start) 8192) (slice_range buffer start end) (end - start) refl size
  where
    least : (n m : ℕ) → n ≤ m → min n m ≡ n
    least n m less = omega (arith, less)

    either : (t : Bool) (raw : List ℕ) (n : ℕ) → nat_lt n 8192 ≡ t → length raw ≡ n → take (min n 8192) raw ≡ take 8192 raw
    either true raw n less size =
        let few = ltb-true n 8192 less in
        take_all (min n 8192) raw (omega (arith, few, size)) ∙ sym (take_all 8192 raw (omega (arith, few, size)))
    either false raw n less size =
        let many = ltb-false n 8192 less in
        let same : min n 8192 ≡ 8192 = omega (arith, many) in
        ap (λ k. take k raw) same

-- nothing more was read
pub range_same : (held raw buffer : List ℕ) (n : ℕ) → held ≡ clipped raw → HasNoFeed raw → take n buffer ≡ take 8192 raw → clipped (slice_range buffer 0 n) ≡ held
range_same held raw buffer n was none front = ap clipped (range_front buffer n) ∙ front_same raw (take n buffer) none front ∙ sym was

pub range_none : (held raw buffer : List ℕ) (n count : ℕ) → count ≡ 0 → held ≡ clipped raw → HasNoFeed raw → take n buffer ≡ take 8192 raw → clipped (slice_range buffer 0 (n + count)) ≡ held
range_none held raw buffer n count empty was none front =
    let same : n + count ≡ n = omega (arith, empty) in
    ap (λ k. clipped (slice_range buffer 0 k)) same ∙ range_same held raw buffer n was none front
