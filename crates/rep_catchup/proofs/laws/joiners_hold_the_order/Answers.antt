use Rattle.rep_catchup.proofs.Orders.{joiner_holds}
use Rattle.rep_catchup.proofs.laws.joiners_hold_the_order.Goals as goal

pub returns : goal.returns
returns c = λ O n k m have t is_node is joiner window tables donated for becomes. joiner_holds c.judging_goes_on.ensures c.judged_items_extend_the_order.ensures O n k m have t is_node is joiner window tables donated becomes
