use Rattle.rep_catchup.proofs.Nexts.{comes_next}
use Rattle.rep_catchup.proofs.laws.donated_parts_come_next.Goals as goal

pub returns : goal.returns
returns c = λ O n k m have t uuid records more is_node is joiner window tables donated is_joined went are. comes_next c.judging_goes_on.ensures c.judged_items_extend_the_order.ensures c.nodes_hold_the_order.ensures c.history_by_items.ensures c.state_is_enough.ensures O n k m have t uuid records more is_node is joiner window tables is_joined went are donated
