use Rattle.std.proofs.Common.{length, sym, subst}
use Rattle.rep_node.specs.Jobs.{IsReady}
use Rattle.rep_node.proofs.Batching.{every_at}
use Rattle.rep_node.proofs.node.Node.work_all.Goals as goal

pub for_each_mut-requires-clause-accepts : goal.for_each_mut-requires-clause-accepts
for_each_mut-requires-clause-accepts g c κs within = λ i p inside is. subst (IsReady g.D.Disk c.args.self.now (length c.args.items.now)) (sym is)
    (every_at (IsReady g.D.Disk c.args.self.now (length c.args.items.now)) c.args.jobs.now i p.now c.requires.ready inside)
