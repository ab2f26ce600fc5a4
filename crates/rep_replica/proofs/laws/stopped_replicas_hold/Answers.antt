use Rattle.rep_replica.proofs.Stopping.{stopped_hold}
use Rattle.rep_replica.proofs.laws.stopped_replicas_hold.Goals as goal

pub returns : goal.returns
returns g c = stopped_hold g.D.Disk c.nodes_hold_the_order.ensures c.fronts_stand_for_the_order.ensures
