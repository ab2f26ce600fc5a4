use Rattle.std.proofs.Common.{Ok, refl, sym, ap, subst, ◌∙◌, rules}
use Rattle.std.specs.Prelude.{IsOk, IsErr}
use Rattle.rep_types.proofs.Choices.{of_success}
use Rattle.rep_disk.specs.Moments.{LeavesOnly}
use Rattle.rep_checkpoint.specs.Moves.{next_part}
use Rattle.rep_checkpoint.specs.Coming.{Coming}
use Rattle.rep_engine.specs.Installing.{MeansEither}
use Rattle.rep_engine.proofs.Installing.{write_to, written, stable_either, stable_leaves, failed, failed_then, not_taken, takes_then, took_place}
use Rattle.rep_engine.proofs.engine.Engine.install_open.Goals as goal

pub returns-in_err-install_next-clause-takes : goal.returns-in_err-install_next-clause-takes
returns-in_err-install_next-clause-takes g c = λ n y holds.
    not_taken g.D.Disk n y _ _ _ c.args.coming c.from_residual.result c.from_residual.ensures.0
    (failed n y _ _ _ _ _ c.install_next.result c.from_residual.result (subst IsErr (sym c.in_err-install_next.was) refl) c.from_residual.ensures.0
    (write_to g.D.Disk g.met.D.Disk.sized c.installations_leave_the_old_or_the_new.ensures c.installations_stand_beside.ensures c.args.self.now c.install_next.new.self c.install_next.ensures.rest c.durable.ensures.engine c.requires.runs n y c.args.coming holds
    c.install_next.result c.install_next.ensures.call c.install_next.ensures.halted c.install_next.new.coming c.install_next.ensures.writes))

pub returns-in_err-install_sync-clause-takes : goal.returns-in_err-install_sync-clause-takes
returns-in_err-install_sync-clause-takes g c = λ n y holds.
    let w =
    written g.D.Disk c.args.self.now c.install_next.new.self c.install_next.ensures.rest c.durable.ensures.engine n y c.args.coming c.install_next.new.coming c.install_next.result (subst IsOk (sym c.in_ok-install_next.was) refl)
    c.install_next.ensures.halted c.install_next.ensures.writes c.install_next.ensures.beside
    (write_to g.D.Disk g.met.D.Disk.sized c.installations_leave_the_old_or_the_new.ensures c.installations_stand_beside.ensures c.args.self.now c.install_next.new.self c.install_next.ensures.rest c.durable.ensures.engine c.requires.runs n y c.args.coming holds
    c.install_next.result c.install_next.ensures.call c.install_next.ensures.halted c.install_next.new.coming c.install_next.ensures.writes) in
    not_taken g.D.Disk n y _ _ _ c.args.coming c.from_residual-in_err-install_sync.result c.from_residual-in_err-install_sync.ensures.0
    (failed_then n y _ c.install_next.new.self _ _ c.install_next.new.coming _ c.from_residual-in_err-install_sync.result c.from_residual-in_err-install_sync.ensures.0 w.super w.leaves
    (stable_leaves g.D.Disk g.met.D.Disk.sized c.installations_leave_the_old_or_the_new.ensures c.installations_stand_beside.ensures c.install_next.new.self c.install_sync.new.self c.install_sync.ensures.rest w.engine w.runs n y c.install_next.new.coming w.holds
    c.install_sync.result c.install_sync.ensures.call c.install_sync.ensures.halted c.install_sync.ensures.settles)
    (stable_either g.D.Disk g.met.D.Disk.sized c.installations_leave_the_old_or_the_new.ensures c.installations_stand_beside.ensures c.install_next.new.self c.install_sync.new.self c.install_sync.ensures.rest w.engine w.runs n y c.install_next.new.coming w.holds
    c.install_sync.result c.install_sync.ensures.call c.install_sync.ensures.halted c.install_sync.ensures.settles))

pub returns-clause-takes : goal.returns-clause-takes
returns-clause-takes g c = λ n y holds.
    let w =
    written g.D.Disk c.args.self.now c.install_next.new.self c.install_next.ensures.rest c.durable.ensures.engine n y c.args.coming c.install_next.new.coming c.install_next.result (subst IsOk (sym c.in_ok-install_next.was) refl)
    c.install_next.ensures.halted c.install_next.ensures.writes c.install_next.ensures.beside
    (write_to g.D.Disk g.met.D.Disk.sized c.installations_leave_the_old_or_the_new.ensures c.installations_stand_beside.ensures c.args.self.now c.install_next.new.self c.install_next.ensures.rest c.durable.ensures.engine c.requires.runs n y c.args.coming holds
    c.install_next.result c.install_next.ensures.call c.install_next.ensures.halted c.install_next.new.coming c.install_next.ensures.writes) in
    let synced : IsOk c.install_sync.result = subst IsOk (sym c.in_ok-install_sync.was) refl in
    takes_then g.D.Disk n y c.args.self.now c.install_next.new.self c.raise_to.new.self c.args.coming c.install_next.new.coming (Ok tt) w.super w.leaves
    (record {
      holds =
          took_place g.D.Disk g.met.D.Disk.sized c.installations_leave_the_old_or_the_new.ensures c.installations_stand_beside.ensures c.install_next.new.self c.install_sync.new.self c.raise_to.new.self c.install_sync.ensures.rest w.engine w.runs n y c.install_next.new.coming w.holds
          c.install_sync.result c.install_sync.ensures.call c.install_sync.ensures.halted c.install_sync.ensures.settles synced (ap (λ (k : Coming). k.part) w.gone_is ∙ ap next_part c.requires.filled) w.beside (of_success c.install_sync.result synced c.install_sync.ensures.log) c.raise_to.ensures.taken
          c.raise_to.ensures.disk c.raise_to.ensures.restarts c.installations_make_the_node.ensures c.nodes_leave_their_fronts.ensures c.images_read_as_allowed.ensures c.versions_follow_the_items.ensures;
      either = tt;
      leaves = subst (λ d. LeavesOnly (g.D.Disk.history c.install_next.new.self.disk) (g.D.Disk.history d) (MeansEither n c.install_next.new.coming.next.super y)) (sym c.raise_to.ensures.disk)
          (stable_leaves g.D.Disk g.met.D.Disk.sized c.installations_leave_the_old_or_the_new.ensures c.installations_stand_beside.ensures c.install_next.new.self c.install_sync.new.self c.install_sync.ensures.rest w.engine w.runs n y c.install_next.new.coming w.holds
          c.install_sync.result c.install_sync.ensures.call c.install_sync.ensures.halted c.install_sync.ensures.settles);
    })

pub images_read_as_allowed-requires : goal.images_read_as_allowed-requires
images_read_as_allowed-requires g c = search

pub nodes_leave_their_fronts-requires : goal.nodes_leave_their_fronts-requires
nodes_leave_their_fronts-requires g c = search

pub versions_follow_the_items-requires : goal.versions_follow_the_items-requires
versions_follow_the_items-requires g c = search

pub installations_stand_beside-requires : goal.installations_stand_beside-requires
installations_stand_beside-requires g c = search

pub installations_leave_the_old_or_the_new-requires : goal.installations_leave_the_old_or_the_new-requires
installations_leave_the_old_or_the_new-requires g c = search

pub installations_make_the_node-requires : goal.installations_make_the_node-requires
installations_make_the_node-requires g c = search

pub install_next-requires-clause-runs : goal.install_next-requires-clause-runs
install_next-requires-clause-runs g c = search

pub install_next-requires-clause-beside : goal.install_next-requires-clause-beside
install_next-requires-clause-beside g c = search

pub returns-clause-refused : goal.returns-clause-refused
returns-clause-refused g c = search

pub install_next-requires-clause-due : goal.install_next-requires-clause-due
install_next-requires-clause-due g c = search rules

pub returns-in_err-install_next-clause-call : goal.returns-in_err-install_next-clause-call
returns-in_err-install_next-clause-call g c = search rules

pub returns-in_err-install_next-clause-refused : goal.returns-in_err-install_next-clause-refused
returns-in_err-install_next-clause-refused g c = search rules

pub returns-in_err-install_next-clause-taken : goal.returns-in_err-install_next-clause-taken
returns-in_err-install_next-clause-taken g c = search rules

pub install_sync-requires-clause-runs : goal.install_sync-requires-clause-runs
install_sync-requires-clause-runs g c = search rules

pub install_sync-requires-clause-resting : goal.install_sync-requires-clause-resting
install_sync-requires-clause-resting g c = search rules

pub returns-in_err-install_sync-clause-call : goal.returns-in_err-install_sync-clause-call
returns-in_err-install_sync-clause-call g c = search rules

pub returns-in_err-install_sync-clause-refused : goal.returns-in_err-install_sync-clause-refused
returns-in_err-install_sync-clause-refused g c = search rules

pub returns-in_err-install_sync-clause-taken : goal.returns-in_err-install_sync-clause-taken
returns-in_err-install_sync-clause-taken g c = search rules

pub raise_to-requires : goal.raise_to-requires
raise_to-requires g c = search rules

pub returns-clause-call : goal.returns-clause-call
returns-clause-call g c = search rules

pub returns-clause-taken : goal.returns-clause-taken
returns-clause-taken g c = search rules
