-- The order of keys, by what its tests say.
use Rattle.std.proofs.Common.{◌≡◌, true, false, arith}
use Rattle.std.proofs.lemmas.Bool.Decides.{nat_tests}
use Rattle.rep_types.specs.declared.key.Key.{Key}
use Rattle.rep_types.specs.Keys.{key_eq, key_lt}

pub lt_trans : (a b c : Key) → key_lt a b ≡ true → key_lt b c ≡ true → key_lt a c ≡ true
lt_trans a b c g h = grind (arith, nat_tests)

pub lt_not_gt : (a b : Key) → key_lt a b ≡ true → key_lt b a ≡ false
lt_not_gt a b h = grind (arith, nat_tests)

pub lt_not_eq : (a b : Key) → key_lt a b ≡ true → key_eq a b ≡ false
lt_not_eq a b h = grind (arith, nat_tests)

pub gt_not_eq : (a b : Key) → key_lt a b ≡ true → key_eq b a ≡ false
gt_not_eq a b h = grind (arith, nat_tests)

pub eq_not_lt : (a b : Key) → key_eq a b ≡ true → key_lt a b ≡ false
eq_not_lt a b h = grind (arith, nat_tests)

pub eq_not_gt : (a b : Key) → key_eq a b ≡ true → key_lt b a ≡ false
eq_not_gt a b h = grind (arith, nat_tests)

-- a key that is neither below another nor that is above it
pub between : (a b : Key) → key_lt a b ≡ false → key_eq a b ≡ false → key_lt b a ≡ true
between a b g h = grind (arith, nat_tests)

pub same_key : (a b : Key) → key_eq a b ≡ true → a ≡ b
same_key a b h = grind (arith, nat_tests)

pub eq_refl : (a : Key) → key_eq a a ≡ true
eq_refl a = grind (arith, nat_tests)
