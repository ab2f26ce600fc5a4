use Rattle.rep_steps.proofs.Running.{runs_come}
use Rattle.rep_steps.proofs.laws.runs_come_to.Goals as goal

pub returns : goal.returns
returns c = runs_come (record { enough = c.state_is_enough.ensures; items = c.history_by_items.ensures }) c.fronts_are_determined.ensures
