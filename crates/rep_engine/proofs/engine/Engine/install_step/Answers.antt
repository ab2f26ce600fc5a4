use Rattle.std.proofs.Common.{refl, sym, ap, subst, ◌∙◌}
use Rattle.std.specs.Prelude.{IsOk, IsErr}
use Rattle.rep_types.proofs.Choices.{of_success}
use Rattle.rep_checkpoint.specs.Coming.{Coming}
use Rattle.rep_engine.specs.Installing.{HoldsBoth}
use Rattle.rep_engine.proofs.Installing.{opens_filled, write_to, written, stable_to, stable_either, stable_leaves, failed, failed_then, done_then}
use Rattle.rep_engine.proofs.engine.Engine.install_step.Goals as goal

pub returns-in_err-install_next-clause-goes : goal.returns-in_err-install_next-clause-goes
returns-in_err-install_next-clause-goes g c = λ n y holds.
    failed n y _ _ _ _ _ c.install_next.result c.from_residual.result (subst IsErr (sym c.in_err-install_next.was) refl) c.from_residual.ensures.0
    (write_to g.D.Disk g.met.D.Disk.sized c.installations_leave_the_old_or_the_new.ensures c.installations_stand_beside.ensures c.args.self.now c.install_next.new.self c.install_next.ensures.rest c.durable.ensures.engine c.requires.runs n y c.args.coming.now holds
    c.install_next.result c.install_next.ensures.call c.install_next.ensures.halted c.install_next.new.coming c.install_next.ensures.writes)

pub returns-in_err-install_sync-clause-goes : goal.returns-in_err-install_sync-clause-goes
returns-in_err-install_sync-clause-goes g c = λ n y holds.
    let w =
    written g.D.Disk c.args.self.now c.install_next.new.self c.install_next.ensures.rest c.durable.ensures.engine n y c.args.coming.now c.install_next.new.coming c.install_next.result (subst IsOk (sym c.in_ok-install_next.was) refl)
    c.install_next.ensures.halted c.install_next.ensures.writes c.install_next.ensures.beside
    (write_to g.D.Disk g.met.D.Disk.sized c.installations_leave_the_old_or_the_new.ensures c.installations_stand_beside.ensures c.args.self.now c.install_next.new.self c.install_next.ensures.rest c.durable.ensures.engine c.requires.runs n y c.args.coming.now holds
    c.install_next.result c.install_next.ensures.call c.install_next.ensures.halted c.install_next.new.coming c.install_next.ensures.writes) in
    failed_then n y _ c.install_next.new.self _ _ c.install_next.new.coming _ c.from_residual-in_err-install_sync.result c.from_residual-in_err-install_sync.ensures.0 w.super w.leaves
    (stable_leaves g.D.Disk g.met.D.Disk.sized c.installations_leave_the_old_or_the_new.ensures c.installations_stand_beside.ensures c.install_next.new.self c.install_sync.new.self c.install_sync.ensures.rest w.engine w.runs n y c.install_next.new.coming w.holds
    c.install_sync.result c.install_sync.ensures.call c.install_sync.ensures.halted c.install_sync.ensures.settles)
    (stable_either g.D.Disk g.met.D.Disk.sized c.installations_leave_the_old_or_the_new.ensures c.installations_stand_beside.ensures c.install_next.new.self c.install_sync.new.self c.install_sync.ensures.rest w.engine w.runs n y c.install_next.new.coming w.holds
    c.install_sync.result c.install_sync.ensures.call c.install_sync.ensures.halted c.install_sync.ensures.settles)

pub returns-clause-goes : goal.returns-clause-goes
returns-clause-goes g c = λ n y holds.
    let w =
    written g.D.Disk c.args.self.now c.install_next.new.self c.install_next.ensures.rest c.durable.ensures.engine n y c.args.coming.now c.install_next.new.coming c.install_next.result (subst IsOk (sym c.in_ok-install_next.was) refl)
    c.install_next.ensures.halted c.install_next.ensures.writes c.install_next.ensures.beside
    (write_to g.D.Disk g.met.D.Disk.sized c.installations_leave_the_old_or_the_new.ensures c.installations_stand_beside.ensures c.args.self.now c.install_next.new.self c.install_next.ensures.rest c.durable.ensures.engine c.requires.runs n y c.args.coming.now holds
    c.install_next.result c.install_next.ensures.call c.install_next.ensures.halted c.install_next.new.coming c.install_next.ensures.writes) in
    let synced : IsOk c.install_sync.result = subst IsOk (sym c.in_ok-install_sync.was) refl in
    done_then n y _ c.install_next.new.self _ c.args.coming.now c.install_next.new.coming c.synced.new.self w.super w.leaves
    (stable_leaves g.D.Disk g.met.D.Disk.sized c.installations_leave_the_old_or_the_new.ensures c.installations_stand_beside.ensures c.install_next.new.self c.install_sync.new.self c.install_sync.ensures.rest w.engine w.runs n y c.install_next.new.coming w.holds
    c.install_sync.result c.install_sync.ensures.call c.install_sync.ensures.halted c.install_sync.ensures.settles)
    (subst (λ (k : Coming). HoldsBoth g.D.Disk n y c.install_sync.new.self k) (sym c.synced.ensures)
    (stable_to g.D.Disk g.met.D.Disk.sized c.installations_leave_the_old_or_the_new.ensures c.installations_stand_beside.ensures c.install_next.new.self c.install_sync.new.self c.install_sync.ensures.rest w.engine w.runs n y c.install_next.new.coming w.holds
    c.install_sync.result c.install_sync.ensures.call c.install_sync.ensures.halted c.install_sync.ensures.settles c.installations_make_the_node.ensures
    (λ opens. opens_filled c.args.coming.now.part c.requires.due c.requires.closed (sym (ap (λ (k : Coming). k.part) w.gone_is) ∙ opens)) w.beside.resting (of_success c.install_sync.result synced c.install_sync.ensures.log) synced))
