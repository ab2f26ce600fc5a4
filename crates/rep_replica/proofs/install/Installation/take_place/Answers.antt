use Rattle.std.proofs.Common.{◌≡◌, List, [], None, false, refl, sym, ap, subst, ◌∙◌}
use Rattle.std.specs.Prelude.{OnOk}
use Rattle.rep_types.specs.declared.judged.Judged.{Judged}
use Rattle.rep_steps.specs.Standings.{Off as is_off_stage}
use Rattle.rep_steps.specs.Nodes.{Node}
use Rattle.rep_recover.specs.Arriving.{installed}
use Rattle.rep_recover.specs.Engines.{facts_of as engine_facts}
use Rattle.rep_replica.specs.Replicas.{Replica, IsReplica, facts_of}
use Rattle.rep_replica.specs.Refusing.{TellsFaults}
use Rattle.rep_replica.specs.Holding.{Holds}
use Rattle.rep_replica.specs.Installing.{Bringing, HoldsBoth, Installs, Lands}
use Rattle.rep_replica.proofs.Installing.{err_of, replica_failed, replica_there, running_there, stage_there, phase_there, lands_there, lands_failed, told_by, told_behind, none_told, installs_failed, held, installs_there, taken_of}
use Rattle.rep_replica.proofs.install.Installation.take_place.Goals as goal

pub invariant_of-replica : goal.invariant_of-replica
invariant_of-replica g c =
    let runs : c.self.inside.engine.engine.halted ≡ None = ap (λ (b : Bringing g.row.D.Denot). b.engine.halted) c.self.view_is ∙ c.requires.running in
    subst (λ (js : List Judged). IsReplica (engine_facts g.D.Disk c.end-engine.result.0) js c.self.inside.before.current false) (sym c.self.invariant.0)
    (replica_failed g.D.Disk c.self.inside.engine.engine c.end-engine.result.0 [] c.self.inside.before.current c.end-engine.result.1 (err_of c.end-engine.result.1 c.if-is_err.ensures.value) (c.end-engine.ensures.fault runs) c.self.invariant.1.replica)

pub returns-then-is_err-clause-lands : goal.returns-then-is_err-clause-lands
returns-then-is_err-clause-lands g c =
    let runs : c.self.inside.engine.engine.halted ≡ None = ap (λ (b : Bringing g.row.D.Denot). b.engine.halted) c.self.view_is ∙ c.requires.running in
    let to : Replica g.row.D.Denot = record { engine = c.end-engine.result.0; backlog = c.self.inside.backlog; certifier = c.self.inside.before; stopped = false } in
    subst (λ (b : Bringing g.row.D.Denot). Lands g.D.Disk b to c.end-engine.result.1) c.self.view_is
    (lands_failed g.D.Disk (record { engine = c.self.inside.engine.engine; coming = c.self.inside.engine.coming; before = c.self.inside.before; after = c.self.inside.after }) c.end-engine.result.0 c.self.inside.backlog c.self.inside.before c.end-engine.result.1
    (err_of c.end-engine.result.1 c.if-is_err.ensures.value) (c.end-engine.ensures.fault runs))

pub returns-then-is_err-clause-installs : goal.returns-then-is_err-clause-installs
returns-then-is_err-clause-installs g c = λ n y.
    let to : Replica g.row.D.Denot = record { engine = c.end-engine.result.0; backlog = c.self.inside.backlog; certifier = c.self.inside.before; stopped = false } in
    subst (λ (b : Bringing g.row.D.Denot). HoldsBoth g.D.Disk n y b → Installs g.D.Disk n y b to c.end-engine.result.1) c.self.view_is
    (λ holds. installs_failed g.D.Disk n y (record { engine = c.self.inside.engine.engine; coming = c.self.inside.engine.coming; before = c.self.inside.before; after = c.self.inside.after }) to c.end-engine.result.1
    (err_of c.end-engine.result.1 c.if-is_err.ensures.value) (c.end-engine.ensures.takes n y holds.engine))

pub invariant_of-replica-2 : goal.invariant_of-replica-2
invariant_of-replica-2 g c =
    let runs : c.self.inside.engine.engine.halted ≡ None = ap (λ (b : Bringing g.row.D.Denot). b.engine.halted) c.self.view_is ∙ c.requires.running in
    let b : Bringing g.row.D.Denot = record { engine = c.self.inside.engine.engine; coming = c.self.inside.engine.coming; before = c.self.inside.before; after = c.self.inside.after } in
    subst (λ (js : List Judged). IsReplica (engine_facts g.D.Disk c.end-engine.result.0) js c.self.inside.after.current false) (sym c.self.invariant.0)
    (replica_there g.D.Disk c.certifiers_hold_windows.ensures b c.end-engine.result.0 (taken_of c.end-engine.result.1 c.if-is_err.ensures.negation c.end-engine.ensures.taken) c.position-position.ensures.beside.0 runs c.self.invariant.1)

pub retire-retired-requires : goal.retire-retired-requires
retire-retired-requires g c =
    let runs : c.self.inside.engine.engine.halted ≡ None = ap (λ (b : Bringing g.row.D.Denot). b.engine.halted) c.self.view_is ∙ c.requires.running in
    let b : Bringing g.row.D.Denot = record { engine = c.self.inside.engine.engine; coming = c.self.inside.engine.coming; before = c.self.inside.before; after = c.self.inside.after } in
    let taken = taken_of c.end-engine.result.1 c.if-is_err.ensures.negation c.end-engine.ensures.taken in
    let beside = c.position-position.ensures.beside.0 in
    record {
      running = record { inside = refl; device = running_there g.D.Disk b c.end-engine.result.0 taken beside runs };
      retiring = stage_there g.D.Disk b c.end-engine.result.0 taken beside runs;
      resting = phase_there g.D.Disk b c.end-engine.result.0 taken beside runs;
    }

pub returns-clause-lands : goal.returns-clause-lands
returns-clause-lands g c =
    let runs : c.self.inside.engine.engine.halted ≡ None = ap (λ (b : Bringing g.row.D.Denot). b.engine.halted) c.self.view_is ∙ c.requires.running in
    let taken = taken_of c.end-engine.result.1 c.if-is_err.ensures.negation c.end-engine.ensures.taken in
    subst (λ (b : Bringing g.row.D.Denot). Lands g.D.Disk b c.retire-retired.new.self c.retire-retired.result) c.self.view_is
    (lands_there g.D.Disk (record { engine = c.self.inside.engine.engine; coming = c.self.inside.engine.coming; before = c.self.inside.before; after = c.self.inside.after }) c.end-engine.result.0 taken c.position-position.ensures.beside.0 runs c.self.inside.after c.retire-retired.new.self c.retire-retired.result
    (subst (λ (js : List Judged). OnOk c.retire-retired.result (facts_of g.D.Disk c.retire-retired.new.self ≡ record (facts_of g.D.Disk (record { engine = c.end-engine.result.0; backlog = js; certifier = c.self.inside.after; stopped = false })) { stage = is_off_stage })) c.self.invariant.0 c.retire-retired.ensures.done)
    c.retire-retired.ensures.fault)

pub returns-clause-installs : goal.returns-clause-installs
returns-clause-installs g c = λ n y.
    let runs : c.self.inside.engine.engine.halted ≡ None = ap (λ (b : Bringing g.row.D.Denot). b.engine.halted) c.self.view_is ∙ c.requires.running in
    let b : Bringing g.row.D.Denot = record { engine = c.self.inside.engine.engine; coming = c.self.inside.engine.coming; before = c.self.inside.before; after = c.self.inside.after } in
    subst (λ (b : Bringing g.row.D.Denot). HoldsBoth g.D.Disk n y b → Installs g.D.Disk n y b c.retire-retired.new.self c.retire-retired.result) c.self.view_is
    (λ holds.
    let takes = c.end-engine.ensures.takes n y holds.engine in
    let m : Node = installed n c.self.inside.engine.coming y in
    let mid =
    subst (λ (js : List Judged). Holds g.D.Disk m (record { engine = c.end-engine.result.0; backlog = js; certifier = c.self.inside.after; stopped = false })) (sym c.self.invariant.0)
    (held g.D.Disk c.certifiers_hold_windows.ensures n y b holds runs c.self.invariant.1 c.position-position.ensures.beside.0 c.end-engine.result.0 c.end-engine.result.1 c.if-is_err.ensures.negation takes) in
    installs_there g.D.Disk c.certifiers_hold_windows.ensures n y b holds runs c.self.invariant.1 c.position-position.ensures.beside.0 c.end-engine.result.0 c.end-engine.result.1 c.if-is_err.ensures.negation takes
    c.retire-retired.new.self c.retire-retired.result (c.retire-retired.ensures.holds m mid) (c.retire-retired.ensures.fronts m mid) (c.retire-retired.ensures.leaves m mid))

-- ---- what is told of the device

pub returns-then-is_err-clause-told : goal.returns-then-is_err-clause-told
returns-then-is_err-clause-told g c =
    let runs : c.self.inside.engine.engine.halted ≡ None = ap (λ (b : Bringing g.row.D.Denot). b.engine.halted) c.self.view_is ∙ c.requires.running in
    subst (λ (b : Bringing g.row.D.Denot). TellsFaults (g.D.Disk.failures b.engine.disk) (g.D.Disk.failures c.end-engine.result.0.disk) c.end-engine.result.1) c.self.view_is
    (told_by g.D.Disk (record { engine = c.self.inside.engine.engine; coming = c.self.inside.engine.coming; before = c.self.inside.before; after = c.self.inside.after }) c.end-engine.result.0 c.end-engine.result.1
    (c.end-engine.ensures.fault runs) c.end-engine.ensures.call)

pub returns-clause-told : goal.returns-clause-told
returns-clause-told g c =
    let same = taken_of c.end-engine.result.1 c.if-is_err.ensures.negation (none_told c.end-engine.result.1 c.end-engine.ensures.call.no_cause) in
    subst (λ (b : Bringing g.row.D.Denot). TellsFaults (g.D.Disk.failures b.engine.disk) (g.D.Disk.failures c.retire-retired.new.self.engine.disk) c.retire-retired.result) c.self.view_is
    (told_behind (g.D.Disk.failures c.self.inside.engine.engine.disk) (g.D.Disk.failures c.end-engine.result.0.disk) (g.D.Disk.failures c.retire-retired.new.self.engine.disk) c.retire-retired.result same c.retire-retired.ensures.told)
