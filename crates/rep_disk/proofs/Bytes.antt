-- Bytes laid over a list, byte by byte and in parts.
use Rattle.std.proofs.Common.{◌≡◌, ℕ, zero, suc, ◌+◌, ◌<◌, ◌≤◌, ◌⊎◌, inl, inr, List, [], ◌∷◌, ◌++◌, length, get_or, take, drop, refl, sym, ap, ◌∙◌, arith}
use Rattle.std.proofs.lemmas.List.{length-take-le, length-drop, get_or-take, get_or-drop, same_lists, get_or_default, take_at}
use borrow.Rule.Slice.PartMut.{put_mid}
use Rattle.rep_disk.specs.Bytes.{put, part}

-- the length stays
pub length-put : (xs : List ℕ) (at : ℕ) (bytes : List ℕ) → length (put xs at bytes) ≡ length xs
length-put [] at bytes = refl
length-put (x ∷ xs) at [] = refl
length-put (x ∷ xs) zero (b ∷ bytes) = ap suc (length-put xs zero bytes)
length-put (x ∷ xs) (suc at) (b ∷ bytes) = ap suc (length-put xs at (b ∷ bytes))

-- nothing laid over a list leaves it
pub put-nothing : (xs : List ℕ) (at : ℕ) → put xs at [] ≡ xs
put-nothing [] at = refl
put-nothing (x ∷ xs) at = refl

-- a byte before the ones laid over it stays
pub get_or-put_before : (xs : List ℕ) (at : ℕ) (bytes : List ℕ) (k d : ℕ) → k + 1 ≤ at → get_or (put xs at bytes) k d ≡ get_or xs k d
get_or-put_before [] at bytes k d below = refl
get_or-put_before (x ∷ xs) at [] k d below = refl
get_or-put_before (x ∷ xs) zero (b ∷ bytes) k d below = absurd (omega arith)
get_or-put_before (x ∷ xs) (suc at) (b ∷ bytes) zero d below = refl
get_or-put_before (x ∷ xs) (suc at) (b ∷ bytes) (suc k) d below = get_or-put_before xs at (b ∷ bytes) k d (omega arith)

-- and so does one behind them
pub get_or-put_behind : (xs : List ℕ) (at : ℕ) (bytes : List ℕ) (k d : ℕ) → at + length bytes ≤ k → get_or (put xs at bytes) k d ≡ get_or xs k d
get_or-put_behind [] at bytes k d above = refl
get_or-put_behind (x ∷ xs) at [] k d above = refl
get_or-put_behind (x ∷ xs) zero (b ∷ bytes) zero d above = absurd (omega arith)
get_or-put_behind (x ∷ xs) zero (b ∷ bytes) (suc k) d above = get_or-put_behind xs zero bytes k d (omega arith)
get_or-put_behind (x ∷ xs) (suc at) (b ∷ bytes) zero d above = absurd (omega arith)
get_or-put_behind (x ∷ xs) (suc at) (b ∷ bytes) (suc k) d above = get_or-put_behind xs at (b ∷ bytes) k d (omega arith)

-- a byte of those laid over it
pub get_or-put_in : (xs : List ℕ) (at : ℕ) (bytes : List ℕ) (k d : ℕ) → k < length bytes → at + k < length xs → get_or (put xs at bytes) (at + k) d ≡ get_or bytes k d
get_or-put_in [] at bytes k d inside fits = absurd (omega arith)
get_or-put_in (x ∷ xs) at [] k d inside fits = absurd (omega arith)
get_or-put_in (x ∷ xs) zero (b ∷ bytes) zero d inside fits = refl
get_or-put_in (x ∷ xs) zero (b ∷ bytes) (suc k) d inside fits =
    let next : get_or (put xs zero bytes) (0 + k) d ≡ get_or bytes k d = get_or-put_in xs zero bytes k d (omega arith) (omega arith) in
    let place : (0 + k) ≡ k = omega arith in
    let whole : (0 + suc k) ≡ suc k = omega arith in
    ap (λ (i : ℕ). get_or (b ∷ put xs zero bytes) i d) whole ∙ (ap (λ (i : ℕ). get_or (put xs zero bytes) i d) (sym place) ∙ next)
get_or-put_in (x ∷ xs) (suc at) (b ∷ bytes) k d inside fits =
    let whole : (suc at + k) ≡ suc (at + k) = omega arith in
    ap (λ (i : ℕ). get_or (x ∷ put xs at (b ∷ bytes)) i d) whole ∙ get_or-put_in xs at (b ∷ bytes) k d inside (omega arith)

-- a byte that the range lies apart from stays
pub get_or-put_apart : (xs : List ℕ) (at : ℕ) (bytes : List ℕ) (k d : ℕ) → (at + length bytes ≤ k) ⊎ (k + 1 ≤ at) → get_or (put xs at bytes) k d ≡ get_or xs k d
get_or-put_apart xs at bytes k d (inl behind) = get_or-put_behind xs at bytes k d behind
get_or-put_apart xs at bytes k d (inr before) = get_or-put_before xs at bytes k d before

-- what a slice holds once a part of it was written
pub put_mid-put : (at : ℕ) (xs bytes : List ℕ) → at + length bytes ≤ length xs → put_mid at (length bytes) xs bytes ≡ put xs at bytes
put_mid-put zero [] [] fits = refl
put_mid-put zero [] (b ∷ bytes) fits = absurd (omega arith)
put_mid-put zero (x ∷ xs) [] fits = refl
put_mid-put zero (x ∷ xs) (b ∷ bytes) fits = ap (λ (rest : List ℕ). b ∷ rest) (put_mid-put zero xs bytes (omega arith))
put_mid-put (suc at) [] bytes fits = absurd (omega arith)
put_mid-put (suc at) (x ∷ xs) [] fits = ap (λ (rest : List ℕ). x ∷ rest) (put_mid-put at xs [] (omega arith) ∙ put-nothing xs at)
put_mid-put (suc at) (x ∷ xs) (b ∷ bytes) fits = ap (λ (rest : List ℕ). x ∷ rest) (put_mid-put at xs (b ∷ bytes) (omega arith))

-- the length of a part
pub length-part : (at n : ℕ) (xs : List ℕ) → at + n ≤ length xs → length (part at n xs) ≡ n
length-part at n xs fits = length-take-le n (drop at xs) (omega (arith, length-drop at xs))

-- a byte of a part
pub get_or-part : (at n : ℕ) (xs : List ℕ) (k d : ℕ) → k < n → get_or (part at n xs) k d ≡ get_or xs (at + k) d
get_or-part at n xs k d inside = get_or-take n (drop at xs) k d inside ∙ get_or-drop at xs k d

-- two lists that agree byte by byte in a range have the same part there
pub part_same : (xs ys : List ℕ) (at n : ℕ) → at + n ≤ length xs → at + n ≤ length ys → ((k : ℕ) → k < n → get_or xs (at + k) 0 ≡ get_or ys (at + k) 0) → part at n xs ≡ part at n ys
part_same xs ys at n fits_x fits_y same =
    same_lists (part at n xs) (part at n ys) (length-part at n xs fits_x ∙ sym (length-part at n ys fits_y)) (λ k d inside.
    let below : k < n = omega (arith, length-part at n xs fits_x) in
    get_or-part at n xs k d below
    ∙ (get_or_default xs (at + k) d 0 (omega arith) ∙ (same k below ∙ (get_or_default ys (at + k) 0 d (omega arith) ∙ sym (get_or-part at n ys k d below)))))

-- a part of the bytes that were laid over a list there
pub part-put_same : (xs : List ℕ) (at : ℕ) (bytes : List ℕ) → at + length bytes ≤ length xs → part at (length bytes) (put xs at bytes) ≡ bytes
part-put_same xs at bytes fits =
    let size : length (part at (length bytes) (put xs at bytes)) ≡ length bytes = length-part at (length bytes) (put xs at bytes) (omega (arith, length-put xs at bytes)) in
    same_lists (part at (length bytes) (put xs at bytes)) bytes size (λ k d inside.
    let below : k < length bytes = omega (arith, size) in
    get_or-part at (length bytes) (put xs at bytes) k d below ∙ get_or-put_in xs at bytes k d below (omega arith))

-- a part that the range lies apart from stays
pub part-put_apart : (xs : List ℕ) (at : ℕ) (bytes : List ℕ) (start n : ℕ) → (at + length bytes ≤ start) ⊎ (start + n ≤ at) → start + n ≤ length xs → part start n (put xs at bytes) ≡ part start n xs
part-put_apart xs at bytes start n apart fits =
    part_same (put xs at bytes) xs start n (omega (arith, length-put xs at bytes)) fits (λ k inside.
    get_or-put_apart xs at bytes (start + k) 0 (elim apart [ inl behind ↦ inl (omega arith) | inr before ↦ inr (omega arith) ]))

-- the same with what was written known by an equation, and as many bytes of room
pub put_mid-put_as : (at k : ℕ) (xs written bytes : List ℕ) → k ≡ length bytes → written ≡ bytes → at + length bytes ≤ length xs → put_mid at k xs written ≡ put xs at bytes
put_mid-put_as at k xs written bytes size is fits = rw (size, is) (put_mid-put at xs bytes fits)

-- what a vector holds once all of it was lent and written
pub written_back : (n : ℕ) (written items bytes : List ℕ) → written ≡ bytes → length written ≡ n → take n (written ++ drop (length written) items) ≡ bytes
written_back n written items bytes is size = take_at written (drop (length written) items) n size ∙ is
