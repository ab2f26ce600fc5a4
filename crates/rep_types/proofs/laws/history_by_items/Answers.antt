use Rattle.std.proofs.Common.{◌≡◌, ◌+◌, ◌-◌, ◌∷◌, ◌++◌, length, get_or, ap, ◌∙◌, arith}
use Rattle.rep_types.specs.declared.item.Item.{Item}
use Rattle.rep_types.specs.Order.{Order, no_item, item}
use Rattle.rep_types.proofs.Lists.{get_behind}
use Rattle.rep_types.proofs.Histories.{length_history, history_at, take_history, verdict_take, history_push_judged}
use Rattle.rep_types.proofs.laws.history_by_items.Goals as goal

-- the item that so many stand before
item_behind : (before rest : Order) (i : Item) → item (before ++ i ∷ rest) (length before + 1) ≡ i
item_behind before rest i =
    let same : length before + 1 - 1 ≡ length before = omega arith in
    ap (λ k. get_or (before ++ i ∷ rest) k no_item) same ∙ get_behind before rest i no_item

pub returns : goal.returns
returns c = record {
  seqno = item_behind;
  as_many = length_history;
  items = λ p L n d first last. history_at p L n d first last;
  front = take_history;
  verdicts = λ p L k n first last. verdict_take p L k n first last;
  one_more = history_push_judged;
}
