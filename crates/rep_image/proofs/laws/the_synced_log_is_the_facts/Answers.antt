use Rattle.rep_image.proofs.Settling.{synced_log}
use Rattle.rep_image.proofs.laws.the_synced_log_is_the_facts.Goals as goal

pub returns : goal.returns
returns c = synced_log
