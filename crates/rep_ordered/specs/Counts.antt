-- Counts as sums of indicators, so that what is counted in different places can be compared by plain arithmetic.
use Rattle.std.specs.Prelude.{ℕ, ◌+◌, ◌-◌, ◌%◌, List, [], ◌∷◌}

-- 1 where the numbers are equal, else 0
abbrev pub one : ℕ → ℕ → ℕ
one x y = 1 - ((x - y) + (y - x))

-- the sum of f over the list
abbrev pub total : {A : Type 0} → (A → ℕ) → List A → ℕ
total f [] = 0
total f (x ∷ xs) = f x + total f xs

-- how often x stands in the list
abbrev pub times : ℕ → List ℕ → ℕ
times x xs = total (one x) xs

-- 1 where x is below n, else 0
abbrev pub once_below : ℕ → ℕ → ℕ
once_below x n = 1 - (x + 1 - n)

-- 1 where a station with this word is held, by a ticket (4n + 1) or from the side (4n + 2), else 0
abbrev pub busy : ℕ → ℕ
busy w = one (w % 4) 1 + one (w % 4) 2

-- 1 where a station with this word was given up (4n + 3), else 0
abbrev pub gave : ℕ → ℕ
gave w = one (w % 4) 3
