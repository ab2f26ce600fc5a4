use Rattle.std.proofs.Common.{sym, subst, ◌∙◌}
use Rattle.rep_replica.specs.Replicas.{Replica}
use Rattle.rep_replica.specs.Holding.{Holds}
use Rattle.rep_replica.proofs.Judging.{judges_as}
use Rattle.rep_replica.proofs.replica.Replica.judge.Goals as goal

pub returns-clause-node : goal.returns-clause-node
returns-clause-node g c = λ n holds.
    let r : Replica g.row.D.Denot = record { engine = c.self.inside.engine; backlog = c.self.inside.backlog; certifier = c.self.inside.certifier; stopped = c.self.inside.stopped } in
    let here = subst (Holds g.D.Disk n) (sym c.self.view_is) holds in
    c.judge_item.ensures ∙ (judges_as g.D.Disk r here.running c.self.invariant n here).verdict c.args.item.now
