use Rattle.rep_checkpoint.proofs.ComingImages.{settles}
use Rattle.rep_checkpoint.proofs.laws.installations_settle.Goals as goal

pub returns : goal.returns
returns c = settles c.turns_are_taken.ensures
