use Rattle.rep_engine.proofs.Ending.{leaves_its_ends}
use Rattle.rep_engine.proofs.laws.running_engines_leave_their_ends.Goals as goal

pub returns : goal.returns
returns g c =
    leaves_its_ends c.nodes_leave_their_ends.ensures c.images_read_as_allowed.ensures g.D.Disk c.args.engine.now c.durable.ensures.engine.layout
