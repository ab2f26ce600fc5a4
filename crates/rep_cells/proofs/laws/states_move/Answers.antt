use Rattle.rep_cells.proofs.Fitting.{states_move}
use Rattle.rep_cells.proofs.laws.states_move.Goals as goal

pub returns : goal.returns
returns c = states_move
