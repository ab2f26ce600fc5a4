use Rattle.rep_cells.proofs.Syncing.{found_assigns}
use Rattle.rep_cells.proofs.laws.found_states_stand.Goals as goal

pub returns : goal.returns
returns c = found_assigns
