use Rattle.rep_steps.proofs.Judging.{judged_extend}
use Rattle.rep_steps.proofs.laws.judged_items_extend_the_order.Goals as goal

pub returns : goal.returns
returns c = judged_extend (record { enough = c.state_is_enough.ensures; items = c.history_by_items.ensures })
