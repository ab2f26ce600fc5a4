-- Which verdicts an item may have, and a number of no bytes.
use Rattle.std.proofs.Common.{◌≡◌, ℕ, List, Some, true, refl, lit<}
use Rattle.rep_forms.specs.Forms.{number, number_bytes}
use Rattle.rep_forms.specs.FormLaws.{number_is_form}
use Rattle.rep_types.specs.declared.item.Item.{Item}
use Rattle.rep_types.specs.declared.item.Item.TheVariants.{WriteSet, SetWindow}
use Rattle.rep_types.specs.declared.verdict.Verdict.{Verdict}
use Rattle.rep_types.specs.declared.verdict.Verdict.TheVariants.{Commit, Conflict, Stale, Future, BadKey}
use Rattle.rep_record.specs.Records.{Suits, suits}

pub suits_is : (i : Item) (v : Verdict) → suits i v ≡ true → Suits i v
suits_is (WriteSet w) v e = tt
suits_is (SetWindow c) Commit e = refl
suits_is (SetWindow c) (Conflict m) e = absurd cc
suits_is (SetWindow c) Stale e = absurd cc
suits_is (SetWindow c) Future e = absurd cc
suits_is (SetWindow c) BadKey e = absurd cc

pub is_suited : (i : Item) (v : Verdict) → Suits i v → suits i v ≡ true
is_suited (WriteSet w) v h = refl
is_suited (SetWindow c) v h = rw h refl

-- a number of no bytes is 0, and takes none
pub no_bytes : (bytes : List ℕ) → (number 0).read bytes ≡ Some (0, bytes)
unfolding number_bytes
no_bytes bytes = (number_is_form 0).again 0 bytes (lit< tt)
