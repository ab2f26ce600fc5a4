-- The bytes of a row that is read.
use Rattle.std.proofs.Common.{◌≡◌, ℕ, zero, suc, ◌-◌, ◌<◌, ◌≤◌, true, List, [], ◌∷◌, ◌++◌, length, take, drop, get_or, Option, Some, None, refl, sym, ap, ◌∙◌, append_assoc, arith, length-drop}
use Rattle.std.specs.List.{flat_map, AllByRecursion}
use Rattle.std.proofs.lemmas.List.{take-append-drop, drop_at, length-take-le, append-nil}
use Rattle.std.proofs.lemmas.List.Concat.{flat_map-cons}
use Rattle.rep_types.specs.declared.limits.TheConstants.{MAX_VALUE}
use Rattle.rep_forms.specs.Forms.{Form, IsForm, AreBytes, zeros, are_blank}
use Rattle.rep_forms.specs.FormLaws.{blank_is, zeros_blank, run_more}
use Rattle.rep_forms.specs.Rows.{RowFits, row_bytes, row_form}
use Rattle.rep_forms.specs.RowLaws.{row_is_form}
use Rattle.rep_forms.proofs.Chains.{told}

-- ---- one row

-- its first two bytes, and the others
by_parts : (bytes : List ℕ) → length bytes ≡ 64 → bytes ≡ get_or bytes 0 0 ∷ get_or bytes 1 0 ∷ drop 2 bytes
by_parts [] h = absurd (omega arith)
by_parts (a ∷ []) h = absurd (omega arith)
by_parts (a ∷ b ∷ rest) h = refl

zeros_first : (n : ℕ) → 0 < n → get_or (zeros n) 0 0 ≡ 0
unfolding zeros
zeros_first zero h = refl
zeros_first (suc n) h = refl

-- zeros are an absent row
pub absent_found : (bytes : List ℕ) → length bytes ≡ 64 → are_blank bytes ≡ true → bytes ≡ row_bytes None
absent_found bytes h e = blank_is bytes e ∙ ap zeros h

-- and a row that begins with a zero is absent
pub absent_only : (bytes : List ℕ) (row : Option (List ℕ)) → get_or bytes 0 0 ≡ 0 → bytes ≡ row_bytes row → are_blank bytes ≡ true
absent_only bytes None z e = ap are_blank e ∙ zeros_blank 64
absent_only bytes (Some value) z e = let one : get_or bytes 0 0 ≡ 1 = ap (λ (b : List ℕ). get_or b 0 0) e in absurd (omega arith)

-- one that does not begins with 1 and a length
pub present_begins : (bytes : List ℕ) (row : Option (List ℕ)) → RowFits row → bytes ≡ row_bytes row → (get_or bytes 0 0 ≡ 0 → ⊥) → (get_or bytes 0 0 ≡ 1) × (get_or bytes 1 0 ≤ MAX_VALUE)
present_begins bytes None fits e some = absurd (some (ap (λ (b : List ℕ). get_or b 0 0) e ∙ zeros_first 64 (omega arith)))
present_begins bytes (Some value) fits e some =
    let size : get_or bytes 1 0 ≡ length value = ap (λ (b : List ℕ). get_or b 1 0) e in
    (ap (λ (b : List ℕ). get_or b 0 0) e, omega (arith, fits.short))

-- the value and zeros behind it are a row
pub present_found : (bytes value behind : List ℕ) (n : ℕ) → length bytes ≡ 64 → get_or bytes 0 0 ≡ 1 → n ≡ get_or bytes 1 0 → n ≤ MAX_VALUE → value ≡ take n (drop 2 bytes) → behind ≡ drop n (drop 2 bytes) → are_blank behind ≡ true
    → bytes ≡ row_bytes (Some value)
present_found bytes value behind n h one size short front back blank =
    let rest : length (drop 2 bytes) ≡ 62 = omega (arith, length-drop 2 bytes) in
    let long : length value ≡ n = ap length front ∙ length-take-le n (drop 2 bytes) (omega arith) in
    let left : length behind ≡ MAX_VALUE - length value = ap length back ∙ omega (arith, length-drop n (drop 2 bytes)) in
    let tail : drop 2 bytes ≡ value ++ zeros (MAX_VALUE - length value) = sym (take-append-drop n (drop 2 bytes)) ∙ rw (← front, ← back, ← left) (ap (λ (b : List ℕ). value ++ b) (blank_is behind blank)) in
    by_parts bytes h ∙ rw (one, ← size, tail, long) refl

-- and behind the value of a row there are zeros
pub present_only : (bytes behind : List ℕ) (n : ℕ) (row : Option (List ℕ)) → get_or bytes 0 0 ≡ 1 → n ≡ get_or bytes 1 0 → bytes ≡ row_bytes row → behind ≡ drop n (drop 2 bytes) → are_blank behind ≡ true
present_only bytes behind n None one size e back = let none : get_or bytes 0 0 ≡ 0 = ap (λ (b : List ℕ). get_or b 0 0) e ∙ zeros_first 64 (omega arith) in absurd (omega arith)
present_only bytes behind n (Some value) one size e back =
    let long : n ≡ length value = size ∙ ap (λ (b : List ℕ). get_or b 1 0) e in
    let tail : drop 2 bytes ≡ value ++ zeros (MAX_VALUE - length value) = ap (λ (b : List ℕ). drop 2 b) e in
    rw (back, tail, drop_at value (zeros (MAX_VALUE - length value)) n (sym long)) (zeros_blank (MAX_VALUE - length value))

-- numbers of a byte each
bytes_fit : (xs : List ℕ) → ((i : ℕ) → get_or xs i 0 < 256) → AreBytes xs
bytes_fit [] h = tt
bytes_fit (x ∷ xs) h = (h 0, bytes_fit xs (λ i. h (suc i)))

front_fits : (n : ℕ) (xs : List ℕ) → AreBytes xs → AreBytes (take n xs)
front_fits zero xs h = tt
front_fits (suc n) [] h = tt
front_fits (suc n) (x ∷ xs) h = (h.0, front_fits n xs h.1)

back_fits : (n : ℕ) (xs : List ℕ) → AreBytes xs → AreBytes (drop n xs)
back_fits zero xs h = h
back_fits (suc n) [] h = tt
back_fits (suc n) (x ∷ xs) h = back_fits n xs h.1

pub part_fits : (n : ℕ) (bytes : List ℕ) → ((i : ℕ) → get_or bytes i 0 < 256) → AreBytes (take n (drop 2 bytes))
part_fits n bytes h = front_fits n (drop 2 bytes) (back_fits 2 bytes (bytes_fit bytes h))

-- ---- rows one behind another

-- one more row is read
pub rows_more : (bytes rest chunk behind : List ℕ) (rows : List (Option (List ℕ))) (row : Option (List ℕ)) → bytes ≡ flat_map row_bytes rows ++ rest → chunk ≡ take 64 rest → behind ≡ drop 64 rest → chunk ≡ row_bytes row
    → bytes ≡ flat_map row_bytes (rows ++ row ∷ []) ++ behind
rows_more bytes rest chunk behind rows row there front back spelled =
    let parts : rest ≡ row_bytes row ++ behind = sym (take-append-drop 64 rest) ∙ rw (← front, ← back, spelled) refl in
    there ∙ rw (parts, run_more row_bytes rows row, append_assoc) refl

-- at a place among values that are spelled, the value that is there
pub record IsThere {A : Type 0} (F : Form A) (xs : List A) (place : ℕ) (bytes : List ℕ) : Type 0 where
  pub value : A
  pub at : (other : A) → get_or xs place other ≡ value
  pub fits : F.Fits value
  pub rest : List ℕ
  pub there : bytes ≡ F.spell value ++ rest

-- behind fewer values than are spelled, the next of them is there
pub next_there : {A : Type 0} (F : Form A) → IsForm F → (before xs : List A) (bytes rest : List ℕ) → AllByRecursion F.Fits before → AllByRecursion F.Fits xs → length before < length xs → flat_map F.spell before ++ bytes ≡ flat_map F.spell xs ++ rest
    → IsThere F xs (length before) bytes
next_there F f [] [] bytes rest fits also lt e = absurd (omega (arith, lt))
next_there F f [] (x ∷ xs) bytes rest fits also lt e = record {
  value = x;
  at = λ other. refl;
  fits = also.0;
  rest = flat_map F.spell xs ++ rest;
  there = e ∙ ap (λ (front : List ℕ). front ++ rest) (flat_map-cons F.spell x xs) ∙ append_assoc (F.spell x) (flat_map F.spell xs) rest;
}
next_there F f (b ∷ before) [] bytes rest fits also lt e = absurd (omega (arith, lt))
next_there F f (b ∷ before) (x ∷ xs) bytes rest fits also lt e =
    let apart = told F f b x (flat_map F.spell before ++ bytes) (flat_map F.spell xs ++ rest) fits.0 also.0 (grind (arith, e, flat_map-cons, append_assoc)) in
    let next = next_there F f before xs bytes rest fits.1 also.1 (omega (arith, lt)) apart.1 in
    record { value = next.value; at = λ other. next.at other; fits = next.fits; rest = next.rest; there = next.there }

-- so behind fewer rows than the bytes are, the next of them is there
pub next_row : (bytes rest : List ℕ) (rows xs : List (Option (List ℕ))) → AllByRecursion RowFits rows → bytes ≡ flat_map row_bytes rows ++ rest → AllByRecursion RowFits xs → bytes ≡ flat_map row_bytes xs → length rows < length xs
    → IsThere row_form xs (length rows) rest
next_row bytes rest rows xs fits there also e lt = next_there row_form row_is_form rows xs rest [] fits also lt (sym there ∙ e ∙ sym (append-nil (flat_map row_bytes xs)))

-- a row that begins with a zero is absent, and an absent one begins so
pub absent_row : (chunk : List ℕ) (row : Option (List ℕ)) → chunk ≡ row_bytes row → get_or chunk 0 0 ≡ 0 → row ≡ None
absent_row chunk None e z = refl
absent_row chunk (Some value) e z = let one : get_or chunk 0 0 ≡ 1 = ap (λ (b : List ℕ). get_or b 0 0) e in absurd (omega arith)

pub absent_begins : (chunk : List ℕ) (row : Option (List ℕ)) → chunk ≡ row_bytes row → row ≡ None → get_or chunk 0 0 ≡ 0
absent_begins chunk row e none = ap (λ (b : List ℕ). get_or b 0 0) (e ∙ ap row_bytes none) ∙ zeros_first 64 (omega arith)

-- a row at the end is absent where those before it are
absent_at_end : (rows : List (Option (List ℕ))) (row : Option (List ℕ)) (index : ℕ) → (index < length rows → get_or rows index None ≡ None) → (index ≡ length rows → row ≡ None) → get_or (rows ++ row ∷ []) index None ≡ None
absent_at_end [] row zero before this = this refl
absent_at_end [] row (suc index) before this = refl
absent_at_end (r ∷ rows) row zero before this = before (omega arith)
absent_at_end (r ∷ rows) row (suc index) before this = absent_at_end rows row index (λ lt. before (omega (arith, lt))) (λ e. this (omega (arith, e)))

-- so rows from a place on stay absent with one more
pub absent_more : (rows : List (Option (List ℕ))) (row : Option (List ℕ)) (present : ℕ) → ((index : ℕ) → present ≤ index → get_or rows index None ≡ None) → (present ≤ length rows → row ≡ None) → (index : ℕ) → present ≤ index
    → get_or (rows ++ row ∷ []) index None ≡ None
absent_more rows row present so_far this index le = absent_at_end rows row index (λ lt. so_far index le) (λ e. this (omega (arith, le, e)))
