use Rattle.std.proofs.Common.{◌≡◌, ◌⊎◌, inl, inr, None, length, refl, sym, ap, subst, ◌∙◌}
use Rattle.rep_log.specs.declared.phase.Step.{Step}
use Rattle.rep_log.specs.declared.phase.Step.TheVariants.{Recycle, Seal, Gate}
use Rattle.rep_log.specs.Standing.{due_of}
use Rattle.rep_steps.specs.declared.event.Event.TheVariants.{Log, Sync}
use Rattle.rep_steps.specs.Standings.{Standing, refusal_here}
use Rattle.rep_steps.specs.Moves.{synced_stage}
use Rattle.rep_recover.specs.Engines.{IsEngine}
use Rattle.rep_recover.specs.Writing.{IsWrite}
use Rattle.rep_replica.specs.Replicas.{Replica, ArePlaced, facts_of}
use Rattle.rep_replica.proofs.Settling.{one_works, one_early, one_done, on_ok, still_running}
use Rattle.rep_replica.proofs.LoggingOn.{can_log, log_due, sync_due, written_less, synced_less}
use Rattle.rep_replica.proofs.replica.Replica.log_on.Goals as goal

abbrev Stands : {D : Type 0} → Replica D → Type 0
Stands r = IsEngine r.engine.layout r.engine.checkpoint r.engine.log r.engine.kept r.engine.block

pub returns-in-Sync : goal.returns-in-Sync
returns-in-Sync g c =
    let old : Replica g.row.D.Denot = c.args.self.now in
    let new : Replica g.row.D.Denot = c.sync.new.self in
    let engine : Stands old = subst (λ (r : Replica g.row.D.Denot). Stands r) c.self.view_is c.durable-log.ensures.engine in
    let due = ap (λ (r : Replica g.row.D.Denot). due_of r.engine.log) (sym c.self.view_is) ∙ sym c.log_step.ensures ∙ c.in-Sync.is in
    let done = one_done g.D.Disk old new Sync c.sync.result c.outcome.result c.outcome.ensures tt c.requires.running refl c.sync.ensures.step in
    record {
      works = one_works g.D.Disk old new Sync c.sync.result c.outcome.result c.outcome.ensures tt c.requires.running refl c.sync.ensures.step c.runs_are_joined.ensures (sync_due g.D.Disk old c.requires.running engine c.requires.off c.requires.some due);
      running = on_ok c.outcome.result (λ ok. still_running g.D.Disk old new Sync (done ok).0 c.requires.running (done ok).1);
      off = on_ok c.outcome.result (λ ok. ap (λ (s : Standing). s.stage) (done ok).1 ∙ ap synced_stage c.requires.off);
      less = on_ok c.outcome.result (λ ok.
          synced_less g.D.Disk old new c.requires.running (still_running g.D.Disk old new Sync (done ok).0 c.requires.running (done ok).1) engine new.engine.checkpoint.base.start (done ok).0 due (done ok).1
          (c.sync.ensures.log (sym c.outcome.ensures ∙ ok)));
      early = one_early g.D.Disk old new Sync c.sync.result c.outcome.result c.outcome.ensures tt c.requires.running refl c.sync.ensures.step;
    }

write_of : (step : Step) → (step ≡ Recycle) ⊎ ((step ≡ Seal) ⊎ (step ≡ Gate)) → IsWrite step
write_of step (inl is) = subst IsWrite (sym is) tt
write_of step (inr (inl is)) = subst IsWrite (sym is) tt
write_of step (inr (inr is)) = subst IsWrite (sym is) tt

pub returns-in-Recycle : goal.returns-in-Recycle
returns-in-Recycle g c =
    let old : Replica g.row.D.Denot = c.args.self.now in
    let new : Replica g.row.D.Denot = c.log.new.self in
    let result = c.outcome-in-Recycle.result in
    let engine : Stands old = subst (λ (r : Replica g.row.D.Denot). Stands r) c.self.view_is c.durable-log.ensures.engine in
    let write : IsWrite (due_of old.engine.log) = subst IsWrite (c.log_step.ensures ∙ ap (λ (r : Replica g.row.D.Denot). due_of r.engine.log) c.self.view_is) (write_of c.log_step.result c.in-Recycle.is) in
    let inside = ap (λ (r : Replica g.row.D.Denot). r.stopped) c.self.view_is ∙ c.requires.running.inside in
    let placed : ArePlaced old.backlog = subst (λ (r : Replica g.row.D.Denot). ArePlaced r.backlog) c.self.view_is (c.self.invariant.items inside).placed in
    let none : refusal_here (facts_of g.D.Disk old) Log ≡ None = can_log g.D.Disk old c.requires.running engine c.fronts_are_determined.ensures write placed c.look_at_the_first.ensures c.requires.some in
    let done = one_done g.D.Disk old new Log c.log.result result c.outcome-in-Recycle.ensures tt c.requires.running none c.log.ensures.step in
    record {
      works = one_works g.D.Disk old new Log c.log.result result c.outcome-in-Recycle.ensures tt c.requires.running none c.log.ensures.step c.runs_are_joined.ensures (log_due g.D.Disk old c.requires.running engine c.requires.off c.requires.some write);
      running = on_ok result (λ ok. still_running g.D.Disk old new Log (done ok).0 c.requires.running (done ok).1);
      off = on_ok result (λ ok. ap (λ (s : Standing). s.stage) (done ok).1 ∙ c.requires.off);
      less = on_ok result (λ ok.
          written_less g.D.Disk old new c.requires.running (still_running g.D.Disk old new Log (done ok).0 c.requires.running (done ok).1) engine (length new.engine.block) (done ok).0 write (done ok).1
          (c.log.ensures.log (sym c.outcome-in-Recycle.ensures ∙ ok)));
      early = one_early g.D.Disk old new Log c.log.result result c.outcome-in-Recycle.ensures tt c.requires.running none c.log.ensures.step;
    }
