-- What readers are shown of a history.
use Rattle.std.specs.Prelude.{◌≡◌, ◌+◌, ℕ, if◌then◌else◌, List, [], ◌∷◌, map, refl}
use Rattle.rep_types.specs.declared.judged.Judged.{Judged}
use Rattle.rep_types.specs.declared.value.Write.{Write}
use Rattle.rep_types.specs.Items.{writes_of}
use Rattle.rep_types.specs.Order.{is_kept}
use Rattle.rep_cert.specs.Holdings.{Holding, Holdings}
use Rattle.rep_snap.specs.declared.change.Pair.{Pair}
use Rattle.rep_snap.specs.Lists.{pair_of}
use Rattle.rep_stations.specs.Judging.{Legal}

-- what an item wrote, which is nothing unless it is a write set that committed
abbrev pub effect_of : Judged → List Write
effect_of j = if is_kept j then writes_of j.item else []

-- what is published of an item: its seqno with what it wrote
abbrev pub shown_of : Judged → Pair
shown_of j = pair_of j.seqno (effect_of j)

abbrev pub shown : List Judged → List Pair
shown items = map shown_of items

-- the seqnos go up by one, behind this one
abbrev pub Counts : ℕ → List Pair → Type 0
Counts before [] = Unit {0}
Counts before (pair ∷ pairs) = (pair.seqno ≡ before + 1) × Counts (before + 1) pairs

-- The pairs are those of a legal history, in order, behind what the first certifier held.
pub record AreShown (c : Holding) (pairs : List Pair) : Type 0 where
  pub items : List Judged
  pub legal : Legal c items
  pub are : pairs ≡ shown items

-- and so they are behind what the one certifier held that stands here
abbrev pub AreAllowed : List Holdings → List Pair → Type 0
AreAllowed certifiers pairs = (c : Holdings) → certifiers ≡ c ∷ [] → AreShown c.current pairs

pub none_allowed : (certifiers : List Holdings) → AreAllowed certifiers []
none_allowed certifiers c is = record { items = []; legal = tt; are = refl }
