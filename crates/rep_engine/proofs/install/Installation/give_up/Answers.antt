use Rattle.std.proofs.Common.{subst}
use Rattle.rep_engine.specs.Holding.{Holds}
use Rattle.rep_engine.specs.Installing.{Beside, HoldsBoth}
use Rattle.rep_engine.proofs.Installing.{given_up}
use Rattle.rep_engine.proofs.install.Installation.give_up.Goals as goal

pub returns-clause-holds : goal.returns-clause-holds
returns-clause-holds g c = λ n y.
    subst (λ (b : Beside g.row.D.Denot). HoldsBoth g.D.Disk n y b.engine b.coming → Holds g.D.Disk n c.self.inside.engine) c.self.view_is
    (given_up g.D.Disk c.installations_can_be_dropped.ensures n y c.self.inside.engine c.self.inside.coming c.self.invariant.1)
