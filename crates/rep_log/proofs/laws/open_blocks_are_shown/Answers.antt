use Rattle.rep_log.proofs.laws.open_blocks_are_shown.Goals as goal
use Rattle.rep_log.proofs.Images.{open_shown}

pub returns : goal.returns
returns c = open_shown c.turns_are_taken.ensures
