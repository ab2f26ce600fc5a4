use Rattle.rep_steps.proofs.Running.{runs_answer}
use Rattle.rep_steps.proofs.laws.runs_answer_the_order.Goals as goal

pub returns : goal.returns
returns c = runs_answer (record { enough = c.state_is_enough.ensures; items = c.history_by_items.ensures }) c.fronts_are_determined.ensures
