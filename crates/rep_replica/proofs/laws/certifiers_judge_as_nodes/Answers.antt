use Rattle.rep_replica.proofs.Judging.{judges_as}
use Rattle.rep_replica.proofs.laws.certifiers_judge_as_nodes.Goals as goal

pub returns : goal.returns
returns g c n holds i =
    (judges_as g.D.Disk c.args.replica.now holds.running c.durable.ensures.replica n holds).verdict i
