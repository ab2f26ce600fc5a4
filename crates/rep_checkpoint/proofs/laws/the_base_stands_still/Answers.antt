use Rattle.rep_checkpoint.proofs.Images.{stands_still}
use Rattle.rep_checkpoint.proofs.laws.the_base_stands_still.Goals as goal

pub returns : goal.returns
returns c = stands_still
