use Rattle.std.proofs.Common.{◌≡◌, ℕ, ◌<◌, ◌≤◌, false, get_or, take, vec_capacity}
use Rattle.std.specs.Slots.{slots_items, slots_filled, slots_len}
use Rattle.std.specs.Slots.Ownership.{Filled}
use Rattle.rep_ordered.proofs.lock.OrderedLock.close.Given as goal

abbrev pub invariant-loop-station : goal.invariant-loop-station
invariant-loop-station g l = Filled (slots_filled l.closed.slots) l.station (slots_len l.closed.slots) × ((k : ℕ) → k < l.station → get_or (slots_filled l.closed.slots) k false ≡ false)
    × (slots_items l.closed.slots ≡ slots_items l.initial.closed.slots) × (slots_len l.closed.slots ≡ slots_len l.initial.closed.slots) × (l.values.items ≡ take l.station (slots_items l.initial.closed.slots)) × (slots_len l.initial.closed.slots ≤ vec_capacity l.values)
