use Rattle.rep_checkpoint.proofs.ComingImages.{old_or_snapshot}
use Rattle.rep_checkpoint.proofs.laws.the_old_base_or_the_snapshot.Goals as goal

pub returns : goal.returns
returns c = old_or_snapshot c.turns_are_taken.ensures
