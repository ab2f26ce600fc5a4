use Rattle.std.proofs.Common.{◌≤◌, length, refl, sym, ap, subst, ◌∙◌}
use Rattle.rep_steps.specs.declared.event.Event.TheVariants.{Sync}
use Rattle.rep_steps.specs.declared.answer.Answer.{Answer}
use Rattle.rep_steps.specs.Moves.{opening}
use Rattle.rep_recover.specs.Engines.{phase_at, facts_of as engine_facts}
use Rattle.rep_recover.specs.Holding.{synced}
use Rattle.rep_replica.specs.Replicas.{Replica}
use Rattle.rep_replica.specs.Holding.{IsStep}
use Rattle.rep_log.specs.Moves.{after_sync, started}
use Rattle.rep_replica.specs.Settling.{outcome_of}
use Rattle.rep_replica.proofs.Keeping.{runs_inside, sync_keeps, replica_keeps}
use Rattle.rep_replica.proofs.Settling.{synced_done}
use Rattle.rep_replica.proofs.Refusing.{left_by_synced, refused_left}
use Rattle.rep_replica.proofs.Stepping.{as_step, sync_step, opening_within}
use Rattle.rep_replica.proofs.replica.Replica.sync.Goals as goal

abbrev old : (g : _) (c : goal.After-synced g) → Replica g.row.D.Denot
old g c = record { engine = c.self.inside.engine; backlog = c.self.inside.backlog; certifier = c.self.inside.certifier; stopped = c.self.inside.stopped }

abbrev new : (g : _) (c : goal.After-synced g) → Replica g.row.D.Denot
new g c = record { engine = c.sync.new.self; backlog = c.self.inside.backlog; certifier = c.self.inside.certifier; stopped = c.self.inside.stopped }

-- what a sync opens was gathered
told : (g : _) (c : goal.After-synced g) → opening (phase_at c.self.inside.engine.log.phase c.self.inside.engine.halted) ≤ length c.self.inside.engine.block
told g c =
    let e = c.self.inside.engine in
    let runs = runs_inside c.self.view_is c.requires.running in
    subst (λ phase. opening phase ≤ length e.block) (sym (ap (phase_at e.log.phase) runs.1)) (opening_within e.log.phase e.block c.durable-durable.ensures.engine.whole)

pub invariant_of-self : goal.invariant_of-self
invariant_of-self g c =
    let runs = runs_inside c.self.view_is c.requires.running in
    replica_keeps (engine_facts g.D.Disk c.self.inside.engine) (engine_facts g.D.Disk c.sync.new.self) c.self.inside.backlog c.self.inside.certifier.current c.self.inside.stopped runs.0
    (sync_keeps (engine_facts g.D.Disk c.self.inside.engine) (engine_facts g.D.Disk c.sync.new.self) (synced c.sync.result) (told g c) c.sync.ensures.moves) c.self.invariant

pub returns-clause-step : goal.returns-clause-step
returns-clause-step g c =
    let runs = runs_inside c.self.view_is c.requires.running in
    let params = c.sync.ensures.params in
    let step = sync_step g.D.Disk c.nodes_stay_nodes.ensures c.judging_goes_on.ensures c.parts_step_as_the_whole.ensures (old g c) (new g c) (synced c.sync.result) params refl refl refl runs.0 (told g c)
    (record { moves = c.sync.ensures.moves; steps = c.sync.ensures.steps; leaves = c.sync.ensures.leaves }) in
    subst (λ (r : Replica g.row.D.Denot). IsStep g.D.Disk r Sync c.synced.result (new g c)) c.self.view_is
    (subst (λ (a : Answer). IsStep g.D.Disk (old g c) Sync a (new g c)) (sym c.synced.ensures)
    (as_step g.D.Disk (old g c) Sync (synced c.sync.result) (new g c) step (c.sync.ensures.call.stays_honest, c.sync.ensures.call.was_honest)
    (left_by_synced Sync (old g c) (new g c) c.sync.result (refused_left Sync (old g c) c.sync.new.self (λ fault. fault) c.sync.result c.sync.ensures.unchanged c.sync.ensures.fault)) tt))

pub returns-clause-log : goal.returns-clause-log
returns-clause-log g c = λ done.
    synced_done c.sync.result _ (sym (ap outcome_of c.synced.ensures) ∙ done) c.sync.ensures.log
    ∙ ap (λ (x : Replica g.row.D.Denot). started c.sync.new.self.checkpoint.base.start (after_sync x.engine.log)) c.self.view_is
