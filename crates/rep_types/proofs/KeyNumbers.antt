-- Keys as numbers.
use Rattle.std.proofs.Common.{◌≡◌, ◌+◌, ◌*◌, ◌^◌, ◌<◌, ◌==◌, arith}
use Rattle.std.proofs.lemmas.Bool.Decides.{nat_tests}
use Rattle.rep_types.specs.declared.key.Key.{Key}
use Rattle.rep_types.specs.Keys.{key_eq}

-- two keys are one where their numbers are
pub same_number : (a b : Key) → a.row < 2 ^ 32 → b.row < 2 ^ 32 → (2 ^ 32 * a.table + a.row == 2 ^ 32 * b.table + b.row) ≡ key_eq a b
same_number a b few more = grind (arith, nat_tests)
