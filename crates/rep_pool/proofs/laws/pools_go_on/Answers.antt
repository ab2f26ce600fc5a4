use Rattle.rep_pool.proofs.GoingOn.{pools_go_on}
use Rattle.rep_pool.proofs.laws.pools_go_on.Goals as goal

pub returns : goal.returns
returns c = pools_go_on
