use Rattle.rep_stations.proofs.Takes.{stay_taken}
use Rattle.rep_stations.proofs.laws.taken_items_stay.Goals as goal

pub returns : goal.returns
returns g c = stay_taken g.D.Disk c.judging_goes_on.ensures
