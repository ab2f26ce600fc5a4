use Rattle.rep_checkpoint.proofs.Settling.{settle}
use Rattle.rep_checkpoint.proofs.laws.nodes_settle.Goals as goal

pub returns : goal.returns
returns c = settle c.judging_goes_on.ensures c.the_synced_log_is_the_facts.ensures
