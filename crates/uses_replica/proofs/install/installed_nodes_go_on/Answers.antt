use Rattle.uses_replica.proofs.Bringing.{goes_on}
use Rattle.uses_replica.proofs.install.installed_nodes_go_on.Goals as goal

pub returns : goal.returns
returns c = goes_on
