use Rattle.rep_log.proofs.laws.the_log_is_told.Goals as goal
use Rattle.rep_log.proofs.Told.{log_is_told}

pub returns : goal.returns
returns c = log_is_told c.turns_are_taken.ensures c.blocks_are_told.ensures
