use Rattle.rep_steps.proofs.Fronts.{fronts_stand}
use Rattle.rep_steps.proofs.laws.fronts_stand_for_the_order.Goals as goal

pub returns : goal.returns
returns c = fronts_stand (record { enough = c.state_is_enough.ensures; items = c.history_by_items.ensures })
