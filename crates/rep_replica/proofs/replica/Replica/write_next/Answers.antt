use Rattle.std.proofs.Common.{◌≡◌, List, None, Result, Ok, length, sym, ap, subst, ◌∙◌}
use Rattle.rep_types.specs.declared.refusal.Refusal.{Refusal}
use Rattle.rep_types.specs.declared.reply.Reply.{Reply}
use Rattle.rep_replica.specs.Committing.{Turns}
use Rattle.std.specs.Prelude.{IfErr}
use Rattle.rep_steps.specs.declared.event.Event.TheVariants.{Log}
use Rattle.rep_steps.specs.Standings.{refusal_here}
use Rattle.rep_recover.specs.Engines.{IsEngine}
use Rattle.rep_replica.specs.Replicas.{Replica, ArePlaced, facts_of}
use Rattle.rep_replica.specs.Settling.{IsRunning, EndsEarly}
use Rattle.rep_replica.proofs.Settling.{one_early, still_running}
use Rattle.rep_replica.proofs.LoggingOn.{can_log, written_less}
use Rattle.rep_replica.proofs.Turning.{log_went, log_turn, log_ended}
use Rattle.rep_replica.proofs.replica.Replica.write_next.Goals as goal

abbrev Stands : {D : Type 0} → Replica D → Type 0
Stands r = IsEngine r.engine.layout r.engine.checkpoint r.engine.log r.engine.kept r.engine.block

pub returns-in-Ok-clause-turns : goal.returns-in-Ok-clause-turns
returns-in-Ok-clause-turns g c =
    let old : Replica g.row.D.Denot = c.args.self.now in
    let engine : Stands old = subst (λ (r : Replica g.row.D.Denot). Stands r) c.self.view_is c.durable-log.ensures.engine in
    let inside = ap (λ (r : Replica g.row.D.Denot). r.stopped) c.self.view_is ∙ c.requires.running.inside in
    let placed : ArePlaced old.backlog = subst (λ (r : Replica g.row.D.Denot). ArePlaced r.backlog) c.self.view_is (c.self.invariant.items inside).placed in
    let none : refusal_here (facts_of g.D.Disk old) Log ≡ None = can_log g.D.Disk old c.requires.running engine c.fronts_are_determined.ensures c.requires.due placed c.look_at_the_first.ensures c.requires.some in
    let done = sym c.outcome.ensures ∙ c.in-Ok.is in
    let went = log_went g.D.Disk c.runs_are_joined.ensures c.args.pages old c.log-answer.new.self c.log-answer.result c.requires.running engine c.requires.free c.requires.due none c.log-answer.ensures.step done in
    let runs : IsRunning c.log-answer.new.self = still_running g.D.Disk old c.log-answer.new.self Log went.0 c.requires.running went.1 in
    subst (λ (rs : List Reply). Turns g.D.Disk c.args.pages old c.log-answer.new.self (Ok (c.args.pages, rs))) (sym c.new.ensures)
    (log_turn g.D.Disk c.runs_are_joined.ensures c.args.pages old c.log-answer.new.self c.log-answer.result c.requires.running engine c.requires.free c.requires.due none c.log-answer.ensures.step done)

pub returns-in-Ok-clause-running : goal.returns-in-Ok-clause-running
returns-in-Ok-clause-running g c =
    let old : Replica g.row.D.Denot = c.args.self.now in
    let engine : Stands old = subst (λ (r : Replica g.row.D.Denot). Stands r) c.self.view_is c.durable-log.ensures.engine in
    let inside = ap (λ (r : Replica g.row.D.Denot). r.stopped) c.self.view_is ∙ c.requires.running.inside in
    let placed : ArePlaced old.backlog = subst (λ (r : Replica g.row.D.Denot). ArePlaced r.backlog) c.self.view_is (c.self.invariant.items inside).placed in
    let none : refusal_here (facts_of g.D.Disk old) Log ≡ None = can_log g.D.Disk old c.requires.running engine c.fronts_are_determined.ensures c.requires.due placed c.look_at_the_first.ensures c.requires.some in
    let done = sym c.outcome.ensures ∙ c.in-Ok.is in
    let went = log_went g.D.Disk c.runs_are_joined.ensures c.args.pages old c.log-answer.new.self c.log-answer.result c.requires.running engine c.requires.free c.requires.due none c.log-answer.ensures.step done in
    let runs : IsRunning c.log-answer.new.self = still_running g.D.Disk old c.log-answer.new.self Log went.0 c.requires.running went.1 in
    runs

pub returns-in-Ok-clause-less : goal.returns-in-Ok-clause-less
returns-in-Ok-clause-less g c =
    let old : Replica g.row.D.Denot = c.args.self.now in
    let engine : Stands old = subst (λ (r : Replica g.row.D.Denot). Stands r) c.self.view_is c.durable-log.ensures.engine in
    let inside = ap (λ (r : Replica g.row.D.Denot). r.stopped) c.self.view_is ∙ c.requires.running.inside in
    let placed : ArePlaced old.backlog = subst (λ (r : Replica g.row.D.Denot). ArePlaced r.backlog) c.self.view_is (c.self.invariant.items inside).placed in
    let none : refusal_here (facts_of g.D.Disk old) Log ≡ None = can_log g.D.Disk old c.requires.running engine c.fronts_are_determined.ensures c.requires.due placed c.look_at_the_first.ensures c.requires.some in
    let done = sym c.outcome.ensures ∙ c.in-Ok.is in
    let went = log_went g.D.Disk c.runs_are_joined.ensures c.args.pages old c.log-answer.new.self c.log-answer.result c.requires.running engine c.requires.free c.requires.due none c.log-answer.ensures.step done in
    let runs : IsRunning c.log-answer.new.self = still_running g.D.Disk old c.log-answer.new.self Log went.0 c.requires.running went.1 in
    written_less g.D.Disk old c.log-answer.new.self c.requires.running runs engine (length c.log-answer.new.self.engine.block) went.0 c.requires.due went.1 (c.log-answer.ensures.log done)

pub returns-in-Err-clause-turns : goal.returns-in-Err-clause-turns
returns-in-Err-clause-turns g c =
    let old : Replica g.row.D.Denot = c.args.self.now in
    let engine : Stands old = subst (λ (r : Replica g.row.D.Denot). Stands r) c.self.view_is c.durable-log.ensures.engine in
    let inside = ap (λ (r : Replica g.row.D.Denot). r.stopped) c.self.view_is ∙ c.requires.running.inside in
    let placed : ArePlaced old.backlog = subst (λ (r : Replica g.row.D.Denot). ArePlaced r.backlog) c.self.view_is (c.self.invariant.items inside).placed in
    let none : refusal_here (facts_of g.D.Disk old) Log ≡ None = can_log g.D.Disk old c.requires.running engine c.fronts_are_determined.ensures c.requires.due placed c.look_at_the_first.ensures c.requires.some in
    log_ended g.D.Disk c.runs_are_joined.ensures c.args.pages old c.log-answer.new.self c.log-answer.result c.requires.running engine c.requires.free c.requires.due none c.log-answer.ensures.step
    c.in-Err.refusal (sym c.outcome.ensures ∙ c.in-Err.is)

pub returns-in-Err-clause-early : goal.returns-in-Err-clause-early
returns-in-Err-clause-early g c =
    let old : Replica g.row.D.Denot = c.args.self.now in
    let engine : Stands old = subst (λ (r : Replica g.row.D.Denot). Stands r) c.self.view_is c.durable-log.ensures.engine in
    let inside = ap (λ (r : Replica g.row.D.Denot). r.stopped) c.self.view_is ∙ c.requires.running.inside in
    let placed : ArePlaced old.backlog = subst (λ (r : Replica g.row.D.Denot). ArePlaced r.backlog) c.self.view_is (c.self.invariant.items inside).placed in
    let none : refusal_here (facts_of g.D.Disk old) Log ≡ None = can_log g.D.Disk old c.requires.running engine c.fronts_are_determined.ensures c.requires.due placed c.look_at_the_first.ensures c.requires.some in
    subst (λ (x : Result (Unit {0}) Refusal). IfErr x EndsEarly) c.in-Err.is
    (one_early g.D.Disk old c.log-answer.new.self Log c.log-answer.result c.outcome.result c.outcome.ensures tt c.requires.running none c.log-answer.ensures.step)
