use Rattle.rep_log.proofs.laws.the_log_in_every_image.Goals as goal
use Rattle.rep_log.proofs.Images.{in_every_image}

pub returns : goal.returns
returns c = in_every_image c.turns_are_taken.ensures
