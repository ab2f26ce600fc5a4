use Rattle.rep_stations.proofs.Closes.{lie_between}
use Rattle.rep_stations.proofs.laws.histories_lie_between_replicas.Goals as goal

pub returns : goal.returns
returns g c = lie_between g.D.Disk c.judging_goes_on.ensures
