-- What a node has been handed.
use Rattle.std.specs.Prelude.{List}
use Rattle.rep_types.specs.declared.judged.Judged.{Judged}
use Rattle.rep_types.specs.Settings.{Setting}
use Rattle.rep_types.specs.Order.{Order, items_of}

-- a node's parameters, and the order that was delivered to it
pub record Delivered : Type 0 where
  pub setting : Setting
  pub order : Order

abbrev pub delivered : Setting → List Judged → Delivered
delivered p items = record { setting = p; order = items_of items }
