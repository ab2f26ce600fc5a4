use Rattle.std.proofs.Common.{◌≡◌, false, Result, ap, subst, ◌∙◌}
use Rattle.std.specs.Prelude.{is_err}
use Rattle.rep_types.specs.declared.refusal.Refusal.{Refusal}
use Rattle.rep_disk.specs.declared.disk.Disk.{Ghosts}
use Rattle.rep_log.specs.declared.phase.Phase.TheVariants.{Resting}
use Rattle.rep_log.specs.declared.phase.Step.TheVariants.{Full}
use Rattle.rep_log.specs.Standing.{due_of}
use Rattle.rep_steps.specs.declared.event.Event.TheVariants.{Check}
use Rattle.rep_steps.specs.declared.answer.Answer.{Answer}
use Rattle.rep_steps.specs.Standings.{Standing, Off}
use Rattle.rep_steps.specs.Moves.{Found, after}
use Rattle.rep_recover.specs.Engines.{IsEngine}
use Rattle.rep_replica.specs.Replicas.{Replica, facts_of}
use Rattle.rep_replica.specs.Holding.{IsStep}
use Rattle.rep_replica.specs.Settling.{IsRunning, outcome_of, Works}
use Rattle.rep_replica.proofs.Settling.{not_refused, runs_on, err_not_ok, works_then, one_works, one_early, one_done, on_ok, ok_on, ok_of, still_running}
use Rattle.rep_replica.proofs.LoggingOn.{full_due, can_begin, phase_is, check_due, room_left, room_made}
use Rattle.rep_replica.proofs.Committing.{keeps_then, refused_keeps, began_keeps}
use Rattle.rep_replica.proofs.replica.Replica.make_room.Goals as goal

abbrev Stands : {D : Type 0} → Replica D → Type 0
Stands r = IsEngine r.engine.layout r.engine.checkpoint r.engine.log r.engine.kept r.engine.block

-- where it began
module _ {D : Type 0} (g : Ghosts D) (old mid : Replica D) (a : Answer) (result : Result (Unit {0}) Refusal) (is : result ≡ outcome_of a)
    (running : IsRunning old) (engine : Stands old) (off : (facts_of g old).stage ≡ Off) (due : due_of old.engine.log ≡ Full) (step : IsStep g old Check a mid) (went : false ≡ is_err result) where
  began : (f : Found) × (facts_of g mid ≡ after (facts_of g old) Check f)
  began = one_done g old mid Check a result is tt running (can_begin g old running engine off due) step (ok_of result went)

  runs : IsRunning mid
  runs = still_running g old mid Check began.0 running began.1

  rests : (facts_of g mid).phase ≡ Resting
  rests = ap (λ (x : Standing). x.phase) began.1 ∙ phase_is g old running engine ∙ (full_due old.engine.log due).0

-- ---- where it didn't begin

pub returns-then-is_err-clause-works : goal.returns-then-is_err-clause-works
returns-then-is_err-clause-works g c =
    let engine : Stands c.args.self.now = subst (λ (r : Replica g.row.D.Denot). Stands r) c.self.view_is c.durable-durable.ensures.engine in
    one_works g.D.Disk c.args.self.now c.check.new.self Check c.check.result c.outcome-ended.result c.outcome-ended.ensures tt c.requires.running
    (can_begin g.D.Disk c.args.self.now c.requires.running engine c.requires.off c.requires.due) c.check.ensures c.runs_are_joined.ensures (check_due g.D.Disk c.args.self.now c.requires.running engine c.requires.off c.requires.some c.requires.due)

pub returns-then-is_err-clause-early : goal.returns-then-is_err-clause-early
returns-then-is_err-clause-early g c =
    let engine : Stands c.args.self.now = subst (λ (r : Replica g.row.D.Denot). Stands r) c.self.view_is c.durable-durable.ensures.engine in
    one_early g.D.Disk c.args.self.now c.check.new.self Check c.check.result c.outcome-ended.result c.outcome-ended.ensures tt c.requires.running
    (can_begin g.D.Disk c.args.self.now c.requires.running engine c.requires.off c.requires.due) c.check.ensures

-- ---- where it did

pub finish_checkpoint-requires : goal.finish_checkpoint-requires
finish_checkpoint-requires g c =
    let engine : Stands c.args.self.now = subst (λ (r : Replica g.row.D.Denot). Stands r) c.self.view_is c.durable-durable.ensures.engine in
    record {
      running = runs g.D.Disk c.args.self.now c.check.new.self c.check.result c.outcome-ended.result c.outcome-ended.ensures c.requires.running engine c.requires.off c.requires.due c.check.ensures c.if-is_err.ensures.value;
    }

pub returns-clause-works : goal.returns-clause-works
returns-clause-works g c =
    let engine : Stands c.args.self.now = subst (λ (r : Replica g.row.D.Denot). Stands r) c.self.view_is c.durable-durable.ensures.engine in
    works_then g.D.Disk c.runs_are_joined.ensures c.args.self.now c.check.new.self c.finish_checkpoint.new.self c.finish_checkpoint.result
    (subst (λ (r : Result (Unit {0}) Refusal). Works g.D.Disk c.args.self.now c.check.new.self r) (ok_of c.outcome-ended.result c.if-is_err.ensures.value)
    (one_works g.D.Disk c.args.self.now c.check.new.self Check c.check.result c.outcome-ended.result c.outcome-ended.ensures tt c.requires.running
    (can_begin g.D.Disk c.args.self.now c.requires.running engine c.requires.off c.requires.due) c.check.ensures c.runs_are_joined.ensures (check_due g.D.Disk c.args.self.now c.requires.running engine c.requires.off c.requires.some c.requires.due))) c.finish_checkpoint.ensures.works

pub returns-clause-less : goal.returns-clause-less
returns-clause-less g c = on_ok c.finish_checkpoint.result (λ done.
    let engine : Stands c.args.self.now = subst (λ (r : Replica g.row.D.Denot). Stands r) c.self.view_is c.durable-durable.ensures.engine in
    let at = began g.D.Disk c.args.self.now c.check.new.self c.check.result c.outcome-ended.result c.outcome-ended.ensures c.requires.running engine c.requires.off c.requires.due c.check.ensures c.if-is_err.ensures.value in
    let rest = rests g.D.Disk c.args.self.now c.check.new.self c.check.result c.outcome-ended.result c.outcome-ended.ensures c.requires.running engine c.requires.off c.requires.due c.check.ensures c.if-is_err.ensures.value in
    room_made g.D.Disk c.args.self.now c.finish_checkpoint.new.self c.requires.running (ok_on c.finish_checkpoint.result c.finish_checkpoint.ensures.running done) engine (facts_of g.D.Disk c.check.new.self)
    at.0 c.requires.due c.requires.off at.1 (ok_on c.finish_checkpoint.result (c.finish_checkpoint.ensures.rests rest) done) (ok_on c.finish_checkpoint.result c.finish_checkpoint.ensures.off done))

-- ---- what stays

pub returns-then-is_err-clause-keeps : goal.returns-then-is_err-clause-keeps
returns-then-is_err-clause-keeps g c =
    let engine : Stands c.args.self.now = subst (λ (r : Replica g.row.D.Denot). Stands r) c.self.view_is c.durable-durable.ensures.engine in
    refused_keeps (facts_of g.D.Disk c.args.self.now) (facts_of g.D.Disk c.check.new.self) Check c.check.result
    (not_refused (facts_of g.D.Disk c.args.self.now) Check (runs_on g.D.Disk c.args.self.now c.requires.running) (can_begin g.D.Disk c.args.self.now c.requires.running engine c.requires.off c.requires.due))
    c.check.ensures.moves (λ done. err_not_ok c.outcome-ended.result c.if-is_err.ensures.value (c.outcome-ended.ensures ∙ done))

pub returns-clause-keeps : goal.returns-clause-keeps
returns-clause-keeps g c =
    let engine : Stands c.args.self.now = subst (λ (r : Replica g.row.D.Denot). Stands r) c.self.view_is c.durable-durable.ensures.engine in
    let at = began g.D.Disk c.args.self.now c.check.new.self c.check.result c.outcome-ended.result c.outcome-ended.ensures c.requires.running engine c.requires.off c.requires.due c.check.ensures c.if-is_err.ensures.value in
    let rest = rests g.D.Disk c.args.self.now c.check.new.self c.check.result c.outcome-ended.result c.outcome-ended.ensures c.requires.running engine c.requires.off c.requires.due c.check.ensures c.if-is_err.ensures.value in
    keeps_then (facts_of g.D.Disk c.args.self.now) (facts_of g.D.Disk c.check.new.self) (facts_of g.D.Disk c.finish_checkpoint.new.self) (began_keeps (facts_of g.D.Disk c.args.self.now) (facts_of g.D.Disk c.check.new.self) at.0 at.1) (c.finish_checkpoint.ensures.keeps rest)

pub returns-clause-free : goal.returns-clause-free
returns-clause-free g c = on_ok c.finish_checkpoint.result (λ done.
    let engine : Stands c.args.self.now = subst (λ (r : Replica g.row.D.Denot). Stands r) c.self.view_is c.durable-durable.ensures.engine in
    let at = began g.D.Disk c.args.self.now c.check.new.self c.check.result c.outcome-ended.result c.outcome-ended.ensures c.requires.running engine c.requires.off c.requires.due c.check.ensures c.if-is_err.ensures.value in
    let rest = rests g.D.Disk c.args.self.now c.check.new.self c.check.result c.outcome-ended.result c.outcome-ended.ensures c.requires.running engine c.requires.off c.requires.due c.check.ensures c.if-is_err.ensures.value in
    room_left g.D.Disk c.args.self.now c.finish_checkpoint.new.self c.requires.running (ok_on c.finish_checkpoint.result c.finish_checkpoint.ensures.running done) engine (facts_of g.D.Disk c.check.new.self)
    at.0 c.requires.off at.1 (ok_on c.finish_checkpoint.result (c.finish_checkpoint.ensures.rests rest) done) (ok_on c.finish_checkpoint.result c.finish_checkpoint.ensures.off done))
