use Rattle.rep_checkpoint.proofs.Images.{is_found}
use Rattle.rep_checkpoint.proofs.laws.the_base_is_found.Goals as goal

pub returns : goal.returns
returns c = is_found
