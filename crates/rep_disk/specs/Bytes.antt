-- Bytes at an offset, and ranges of them.
use Rattle.std.specs.Prelude.{ℕ, zero, suc, ◌+◌, ◌≤◌, ◌⊎◌, List, [], ◌∷◌, take, drop}

-- These bytes laid over a list from an offset on. The list keeps its length: what would stand past its end is left out.
abbrev pub put : List ℕ → ℕ → List ℕ → List ℕ
put [] at bytes = []
put (x ∷ xs) at [] = x ∷ xs
put (x ∷ xs) zero (b ∷ bytes) = b ∷ put xs zero bytes
put (x ∷ xs) (suc at) (b ∷ bytes) = x ∷ put xs at (b ∷ bytes)

-- so many bytes from an offset on
abbrev pub part : ℕ → ℕ → List ℕ → List ℕ
part at n bytes = take n (drop at bytes)

-- Each of these ranges, an offset and a length, lies apart from the n bytes at this offset.
abbrev pub Untouched : List (ℕ × ℕ) → ℕ → ℕ → Type 0
Untouched [] at n = Unit {0}
Untouched (range ∷ ranges) at n = ((range.0 + range.1 ≤ at) ⊎ (at + n ≤ range.0)) × Untouched ranges at n
