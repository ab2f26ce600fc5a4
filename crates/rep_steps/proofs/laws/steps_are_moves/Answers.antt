use Rattle.rep_steps.proofs.Moving.{steps_move}
use Rattle.rep_steps.proofs.laws.steps_are_moves.Goals as goal

pub returns : goal.returns
returns c = steps_move
