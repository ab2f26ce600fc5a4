use Rattle.rep_checkpoint.proofs.Apart.{checkpoint_apart}
use Rattle.rep_checkpoint.proofs.laws.the_checkpoint_is_apart.Goals as goal

pub returns : goal.returns
returns c = checkpoint_apart
