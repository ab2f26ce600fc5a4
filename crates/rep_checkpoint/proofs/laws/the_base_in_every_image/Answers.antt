use Rattle.rep_checkpoint.proofs.Images.{in_every_image}
use Rattle.rep_checkpoint.proofs.laws.the_base_in_every_image.Goals as goal

pub returns : goal.returns
returns c = in_every_image c.turns_are_taken.ensures
