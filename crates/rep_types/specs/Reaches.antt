-- How far back the window of an order reaches (this project): its size and its floor. The items alone tell both, whatever their
-- verdicts.
use Rattle.std.specs.Prelude.{ℕ, zero, suc, ◌+◌, ◌-◌, List, length, take, fold, max}
use Rattle.rep_types.specs.declared.item.Item.{Item}
use Rattle.rep_types.specs.declared.item.Item.TheVariants.{WriteSet, SetWindow}
use Rattle.rep_types.specs.declared.reach.Reach.{Reach}
use Rattle.rep_types.specs.Settings.{Setting}

-- the size after one more item
abbrev pub resized : ℕ → Item → ℕ
resized before (WriteSet w) = before
resized before (SetWindow c) = c.size

-- The size of the window after the order: the last one that an item set, else that of the parameters.
abbrev pub size : Setting → List Item → ℕ
size p L = fold resized p.window L

-- The floor after the first n items: the least seqno that the window can hold. It is 1 before any item. At each item n it is raised to
-- n + 1 - size, with the size after that item, where it was below; so it never falls.
abbrev pub floor : Setting → List Item → ℕ → ℕ
floor p L zero = 1
floor p L (suc n) = max (floor p L n) (suc n + 1 - size p (take (suc n) L))

-- The size and the floor after the order.
abbrev pub reach : Setting → List Item → Reach
reach p L = record { size = size p L; floor = floor p L (length L) }

-- The size and the floor after one more item, which has the seqno n.
abbrev pub reach_after : Reach → ℕ → Item → Reach
reach_after r n i = record { size = resized r.size i; floor = max r.floor (n + 1 - resized r.size i) }
