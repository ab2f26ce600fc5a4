use Rattle.rep_steps.proofs.Running.{fed}
use Rattle.rep_steps.proofs.laws.fed_the_rest.Goals as goal

pub returns : goal.returns
returns c = fed (record { enough = c.state_is_enough.ensures; items = c.history_by_items.ensures }) c.fronts_are_determined.ensures
