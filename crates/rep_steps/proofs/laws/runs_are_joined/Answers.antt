use Rattle.rep_steps.proofs.Driving.{runs_joined}
use Rattle.rep_steps.proofs.laws.runs_are_joined.Goals as goal

pub returns : goal.returns
returns g c = runs_joined (record { enough = c.state_is_enough.ensures; items = c.history_by_items.ensures }) c.fronts_are_determined.ensures g.C.Core.means
