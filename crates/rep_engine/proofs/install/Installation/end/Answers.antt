use Rattle.std.proofs.Common.{Err, subst, rules}
use Rattle.rep_types.specs.declared.refusal.Refusal.{Refusal}
use Rattle.rep_types.specs.declared.refusal.Refusal.TheVariants.{Stopped}
use Rattle.rep_engine.specs.Installing.{Beside, HoldsBoth, TakesPlace}
use Rattle.rep_engine.proofs.Installing.{still_both}
use Rattle.rep_engine.proofs.install.Installation.end.Goals as goal

pub returns-then-is_stopped-clause-takes : goal.returns-then-is_stopped-clause-takes
returns-then-is_stopped-clause-takes g c = λ n y.
    subst (λ (b : Beside g.row.D.Denot). HoldsBoth g.D.Disk n y b.engine b.coming → TakesPlace {T = Unit {0}} {E = Refusal} g.D.Disk n y b.coming b.engine c.self.inside.engine (Err Stopped)) c.self.view_is
    (still_both g.D.Disk n y c.self.inside.engine c.self.inside.coming Stopped)

pub returns-clause-takes : goal.returns-clause-takes
returns-clause-takes g c = λ n y.
    subst (λ (b : Beside g.row.D.Denot). HoldsBoth g.D.Disk n y b.engine b.coming → TakesPlace {T = Unit {0}} {E = Refusal} g.D.Disk n y b.coming b.engine c.install_end-outcome.new.self c.install_end-outcome.result) c.self.view_is
    (c.install_end-outcome.ensures.takes n y)

pub returns-then-is_stopped-clause-taken : goal.returns-then-is_stopped-clause-taken
returns-then-is_stopped-clause-taken g c = search

pub install_end-outcome-requires-clause-beside : goal.install_end-outcome-requires-clause-beside
install_end-outcome-requires-clause-beside g c = search

pub install_end-outcome-requires-clause-due : goal.install_end-outcome-requires-clause-due
install_end-outcome-requires-clause-due g c = search

pub returns-then-is_stopped-clause-call : goal.returns-then-is_stopped-clause-call
returns-then-is_stopped-clause-call g c = search rules

pub returns-then-is_stopped-clause-stopped : goal.returns-then-is_stopped-clause-stopped
returns-then-is_stopped-clause-stopped g c = search rules

pub returns-then-is_stopped-clause-fault : goal.returns-then-is_stopped-clause-fault
returns-then-is_stopped-clause-fault g c = search rules

pub install_end-outcome-requires-clause-runs : goal.install_end-outcome-requires-clause-runs
install_end-outcome-requires-clause-runs g c = search rules

pub returns-clause-call : goal.returns-clause-call
returns-clause-call g c = search rules

pub returns-clause-stopped : goal.returns-clause-stopped
returns-clause-stopped g c = search rules

pub returns-clause-fault : goal.returns-clause-fault
returns-clause-fault g c = search rules

pub returns-clause-taken : goal.returns-clause-taken
returns-clause-taken g c = search rules
