use Rattle.rep_replica.proofs.Asking.{asks_given_up}
use Rattle.rep_replica.proofs.laws.asks_are_given_up.Goals as goal

pub returns : goal.returns
returns g c = asks_given_up g.D.Disk
