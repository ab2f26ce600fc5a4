use Rattle.std.proofs.Common.{◌≡◌, None, IfErr, OnOk, Err, ap, subst, ◌∙◌, rules}
use Rattle.rep_types.specs.declared.refusal.Refusal.TheVariants.{DiskFault}
use Rattle.rep_disk.specs.Moments.{LeavesOnly}
use Rattle.rep_steps.specs.Images.{IsFrontAt}
use Rattle.rep_checkpoint.specs.Meanings.{Means}
use Rattle.rep_checkpoint.specs.Coming.{with_page}
use Rattle.rep_checkpoint.specs.Installing.{WritesComing}
use Rattle.rep_engine.specs.Reading.{halted_by}
use Rattle.rep_engine.specs.Installing.{Beside, HoldsBoth, halted_node}
use Rattle.rep_engine.proofs.Installing.{ok_by, err_by, err_of, page_to, page_stops, page_leaves}
use Rattle.rep_engine.proofs.install.Installation.put_page.Goals as goal

pub returns-clause-written : goal.returns-clause-written
returns-clause-written g c =
    subst (λ (b : Beside g.row.D.Denot). b.engine.halted ≡ None → WritesComing g.D.Disk b.engine.layout b.engine.checkpoint.base b.coming c.args.page c.args.rows b.engine.disk c.install_page.new.self.disk c.install_page.result) c.self.view_is
    (λ runs. c.install_page.ensures.puts.written)

pub returns-clause-holds : goal.returns-clause-holds
returns-clause-holds g c = λ n y.
    subst (λ (b : Beside g.row.D.Denot). HoldsBoth g.D.Disk n y b.engine b.coming
    → OnOk c.install_page.result (HoldsBoth g.D.Disk n (with_page b.engine.checkpoint.base.params.rows c.args.page c.args.rows y) c.install_page.new.self c.install_page.new.coming)) c.self.view_is
    (λ holds. ok_by c.install_page.result (page_to g.D.Disk g.met.D.Disk.sized c.installations_leave_the_old_or_the_new.ensures c.installations_stand_beside.ensures c.self.inside.engine c.install_page.new.self c.install_page.ensures.rest c.running.ensures.engine c.in_ok-running.ensures.runs
    n y c.self.inside.coming holds c.install_page.result c.install_page.ensures.call c.install_page.ensures.halted c.install_page.new.coming c.args.page c.args.rows c.install_page.ensures.puts c.self.invariant.1))

pub returns-clause-halts : goal.returns-clause-halts
returns-clause-halts g c = λ n y.
    subst (λ (b : Beside g.row.D.Denot). HoldsBoth g.D.Disk n y b.engine b.coming
    → IfErr c.install_page.result (λ e. e ≡ DiskFault → HoldsBoth g.D.Disk (halted_node (g.D.Disk.failures c.install_page.new.self.disk) n) y c.install_page.new.self c.install_page.new.coming)) c.self.view_is
    (λ holds. err_by c.install_page.result (λ e is fault.
    page_stops g.D.Disk g.met.D.Disk.sized c.installations_leave_the_old_or_the_new.ensures c.installations_stand_beside.ensures c.self.inside.engine c.install_page.new.self c.install_page.ensures.rest c.running.ensures.engine c.in_ok-running.ensures.runs
    n y c.self.inside.coming holds c.install_page.result c.install_page.ensures.call c.install_page.ensures.halted c.install_page.new.coming c.args.page c.args.rows c.install_page.ensures.puts c.self.invariant.1
    (c.install_page.ensures.halted ∙ ap (halted_by c.self.inside.engine.log.phase) (is ∙ ap Err fault)) (err_of c.install_page.result e is c.install_page.ensures.puts.fault)))

pub returns-clause-leaves : goal.returns-clause-leaves
returns-clause-leaves g c = λ n y.
    subst (λ (b : Beside g.row.D.Denot). HoldsBoth g.D.Disk n y b.engine b.coming
    → LeavesOnly (g.D.Disk.history b.engine.disk) (g.D.Disk.history c.install_page.new.self.disk) (IsFrontAt Means n)) c.self.view_is
    (λ holds. page_leaves g.D.Disk g.met.D.Disk.sized c.installations_leave_the_old_or_the_new.ensures c.installations_stand_beside.ensures c.self.inside.engine c.install_page.new.self.disk c.install_page.new.self.halted c.running.ensures.engine c.in_ok-running.ensures.runs
    n y c.self.inside.coming holds c.install_page.new.coming c.args.page c.args.rows c.install_page.result c.install_page.ensures.puts c.install_page.ensures.call c.self.invariant.1)

pub returns-in_err-running-clause-rest : goal.returns-in_err-running-clause-rest
returns-in_err-running-clause-rest g c = search

pub installations_stand_beside-requires : goal.installations_stand_beside-requires
installations_stand_beside-requires g c = search

pub installations_leave_the_old_or_the_new-requires : goal.installations_leave_the_old_or_the_new-requires
installations_leave_the_old_or_the_new-requires g c = search

pub install_page-requires-clause-beside : goal.install_page-requires-clause-beside
install_page-requires-clause-beside g c = search

pub install_page-requires-clause-due : goal.install_page-requires-clause-due
install_page-requires-clause-due g c = search

pub returns-in_err-running-clause-call : goal.returns-in_err-running-clause-call
returns-in_err-running-clause-call g c = search rules

pub returns-in_err-running-clause-stopped : goal.returns-in_err-running-clause-stopped
returns-in_err-running-clause-stopped g c = search rules

pub returns-in_err-running-clause-running : goal.returns-in_err-running-clause-running
returns-in_err-running-clause-running g c = search rules

pub returns-in_err-running-clause-done : goal.returns-in_err-running-clause-done
returns-in_err-running-clause-done g c = search rules

pub returns-in_err-running-clause-fault : goal.returns-in_err-running-clause-fault
returns-in_err-running-clause-fault g c = search rules

pub returns-in_err-running-clause-written : goal.returns-in_err-running-clause-written
returns-in_err-running-clause-written g c = search rules

pub returns-in_err-running-clause-holds : goal.returns-in_err-running-clause-holds
returns-in_err-running-clause-holds g c = search rules

pub returns-in_err-running-clause-halts : goal.returns-in_err-running-clause-halts
returns-in_err-running-clause-halts g c = search rules

pub returns-in_err-running-clause-leaves : goal.returns-in_err-running-clause-leaves
returns-in_err-running-clause-leaves g c = search rules

pub install_page-requires-clause-runs : goal.install_page-requires-clause-runs
install_page-requires-clause-runs g c = search rules

pub install_page-requires-clause-page : goal.install_page-requires-clause-page
install_page-requires-clause-page g c = search rules

pub invariant_of-self : goal.invariant_of-self
invariant_of-self g c = search rules

pub returns-clause-call : goal.returns-clause-call
returns-clause-call g c = search rules

pub returns-clause-rest : goal.returns-clause-rest
returns-clause-rest g c = search rules

pub returns-clause-stopped : goal.returns-clause-stopped
returns-clause-stopped g c = search rules

pub returns-clause-running : goal.returns-clause-running
returns-clause-running g c = search rules

pub returns-clause-done : goal.returns-clause-done
returns-clause-done g c = search rules

pub returns-clause-fault : goal.returns-clause-fault
returns-clause-fault g c = search rules
