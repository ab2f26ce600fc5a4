-- Tests over lists that are mapped or joined.
use Rattle.std.proofs.Common.{◌≡◌, Bool, List, [], ◌∷◌, map, refl, ap}
use Rattle.std.specs.Prelude.{◌||◌}
use Rattle.std.specs.List.{list_any}
use Rattle.rep_types.specs.declared.item.Item.{Item}
use Rattle.rep_types.specs.declared.item.Item.TheVariants.{WriteSet, SetWindow}
use Rattle.rep_types.specs.Transactions.{key_of}
use Rattle.rep_types.specs.Items.{writes_of, written_by}
use Rattle.std.proofs.lemmas.List.Folds.{list_any-append, list_all-map, list_all-append}

-- some value of f passes the test where it passes behind f
pub list_any-map : {A B : Type 0} (test : B → Bool) (f : A → B) (xs : List A) → list_any test (map f xs) ≡ list_any (λ x. test (f x)) xs
list_any-map test f [] = refl
list_any-map test f (x ∷ xs) = ap (λ (found : Bool). test (f x) || found) (list_any-map test f xs)

-- the keys that an item writes are those of its writes
pub written-writes : (i : Item) → written_by i ≡ map key_of (writes_of i)
written-writes (WriteSet w) = refl
written-writes (SetWindow c) = refl

-- how tests go over lists that are mapped or joined
pub ruleset tests = (list_any-map, list_any-append, list_all-map, list_all-append, written-writes)
