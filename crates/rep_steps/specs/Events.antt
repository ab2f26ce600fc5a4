-- The events that deliver items.
use Rattle.std.specs.Prelude.{ℕ}
use Rattle.rep_types.specs.declared.item.Item.{Item}
use Rattle.rep_types.specs.declared.item.Item.TheVariants.{WriteSet, SetWindow as OfChange}
use Rattle.rep_steps.specs.declared.event.Event.{Event}
use Rattle.rep_steps.specs.declared.event.Event.TheVariants.{Deliver, SetWindow}

-- a change of the window's size, as the item that it is
abbrev pub change : ℕ → ℕ → ℕ → Item
change size source trx = OfChange (record { size = size; source = source; trx = trx })

-- the event that delivers the item with this seqno
abbrev pub delivery : ℕ → Item → Event
delivery seqno (WriteSet w) = Deliver seqno w
delivery seqno (OfChange c) = SetWindow seqno c.size c.source c.trx
