use Rattle.rep_stations.proofs.Waits.{histories_go_on}
use Rattle.rep_stations.proofs.laws.histories_go_on.Goals as goal

pub returns : goal.returns
returns c = histories_go_on c.judging_goes_on.ensures
