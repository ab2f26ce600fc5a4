use Rattle.rep_replica.proofs.Forgetting.{reads_forget}
use Rattle.rep_replica.proofs.laws.reads_forget_nothing.Goals as goal

pub returns : goal.returns
returns g c = reads_forget g.D.Disk c.nodes_outlast_failures.ensures c.steps_follow_the_order.ensures
