use Rattle.rep_checkpoint.proofs.Apart.{log_apart}
use Rattle.rep_checkpoint.proofs.laws.the_log_is_apart.Goals as goal

pub returns : goal.returns
returns c = log_apart
