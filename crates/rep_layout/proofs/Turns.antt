-- Superblocks take turns between the sides, and blocks of the log between the cells.
use Rattle.std.proofs.Common.{◌≢◌, ℕ, ◌+◌, ◌%◌, ◌<◌, arith}
use Rattle.std.proofs.lemmas.Bool.Decides.{nat_tests}
use Rattle.std.proofs.Math.Nat.{add-mod_right}

-- numbers less than k apart have different remainders
pub mod_apart : (m n k : ℕ) → m < n → n < m + k → m % k ≢ n % k
mod_apart m n k lt near same = grind arith

-- the tests of a place, and remainders
pub ruleset turns = (nat_tests, mod_apart, add-mod_right)
