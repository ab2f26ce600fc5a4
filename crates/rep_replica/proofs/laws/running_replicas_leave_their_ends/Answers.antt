use Rattle.std.proofs.Common.{sym, ap, subst, ◌∙◌}
use Rattle.rep_disk.specs.History.{IsImage}
use Rattle.rep_steps.specs.Parts.{part_of}
use Rattle.rep_replica.specs.Replicas.{Replica}
use Rattle.rep_replica.specs.Holding.{Holds}
use Rattle.rep_replica.proofs.Widening.{whole_end}
use Rattle.rep_replica.proofs.laws.running_replicas_leave_their_ends.Goals as goal

pub returns : goal.returns
returns g c n holds runs image is =
    let r : Replica g.row.D.Denot = record { engine = c.replica.inside.engine; backlog = c.replica.inside.backlog; certifier = c.replica.inside.certifier; stopped = c.replica.inside.stopped } in
    let there : Holds g.D.Disk n r = subst (Holds g.D.Disk n) (sym c.replica.view_is) holds in
    whole_end n r.engine.block there.taken image
    (c.running_engines_leave_their_ends.ensures (part_of r.engine.block there.taken n) there.engine (ap (λ (x : Replica g.row.D.Denot). x.engine.halted) c.replica.view_is ∙ runs) image
    (subst (λ (x : Replica g.row.D.Denot). IsImage (g.D.Disk.history x.engine.disk) image) (sym c.replica.view_is) is))
