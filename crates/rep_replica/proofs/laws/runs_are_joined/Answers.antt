use Rattle.rep_replica.proofs.Joining.{runs_joined}
use Rattle.rep_replica.proofs.laws.runs_are_joined.Goals as goal

pub returns : goal.returns
returns g c = runs_joined g.D.Disk c.runs_are_joined.ensures
