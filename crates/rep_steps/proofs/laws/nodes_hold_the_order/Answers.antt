use Rattle.rep_steps.proofs.Following.{holds_of}
use Rattle.rep_steps.proofs.laws.nodes_hold_the_order.Goals as goal

pub returns : goal.returns
returns c = holds_of (record { enough = c.state_is_enough.ensures; items = c.history_by_items.ensures })
