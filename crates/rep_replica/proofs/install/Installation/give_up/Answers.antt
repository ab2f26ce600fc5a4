use Rattle.std.proofs.Common.{List, false, sym, subst}
use Rattle.rep_types.specs.declared.judged.Judged.{Judged}
use Rattle.rep_replica.specs.Holding.{Holds}
use Rattle.rep_replica.specs.Installing.{Bringing, HoldsBoth}
use Rattle.rep_replica.proofs.Installing.{held_alone}
use Rattle.rep_replica.proofs.install.Installation.give_up.Goals as goal

pub returns-clause-holds : goal.returns-clause-holds
returns-clause-holds g c = λ n y.
    subst (λ (b : Bringing g.row.D.Denot). HoldsBoth g.D.Disk n y b
    → Holds g.D.Disk n (record { engine = c.give_up.result; backlog = c.self.inside.backlog; certifier = c.self.inside.before; stopped = false })) c.self.view_is
    (λ holds. subst (λ (js : List Judged). Holds g.D.Disk n (record { engine = c.give_up.result; backlog = js; certifier = c.self.inside.before; stopped = false })) (sym c.self.invariant.0)
    (held_alone g.D.Disk n c.give_up.result c.self.inside.before (c.give_up.ensures.holds n y holds.engine) holds.judged holds.windows))
