use Rattle.std.proofs.Common.{◌≡◌, inr, Some, refl, sym, ap, ◌∙◌, arith}
use Rattle.rep_steps.specs.declared.event.Event.TheVariants.{Check}
use Rattle.rep_steps.specs.Standings.{Standing}
use Rattle.rep_replica.specs.Replicas.{facts_of}
use Rattle.rep_replica.specs.Settling.{step_of}
use Rattle.rep_replica.specs.Committing.{pages_left}
use Rattle.rep_replica.proofs.Settling.{done_by, not_refused, runs_on, due_step}
use Rattle.rep_replica.proofs.Committing.{check_beside, checked_none}
use Rattle.rep_replica.proofs.Turning.{rode_rides, rides_rode, rode_on, ride_ended, ride_early}
use Rattle.rep_replica.proofs.replica.Replica.ride.Goals as goal

pub returns-in-Ok-outcome-clause-rides : goal.returns-in-Ok-outcome-clause-rides
returns-in-Ok-outcome-clause-rides g c =
    let rode = rode_rides g.D.Disk c.runs_are_joined.ensures c.args.pages c.in-Ok.left c.args.self.now c.flush_some.new.self c.in-Ok.ensures.running c.in-Ok.ensures.rides in
    let waits : step_of (facts_of g.D.Disk c.flush_some.new.self).stage ≡ Some Check = sym c.checkpoint_event.ensures ∙ c.in-Some-Check.is ∙ ap Some c.in-Some-Check.field-0-is in
    let s = facts_of g.D.Disk c.flush_some.new.self in
    let done = sym c.outcome.ensures ∙ c.in-Ok-outcome.is in
    let went = done_by s (facts_of g.D.Disk c.check-answer.new.self) Check c.check-answer.result (not_refused s Check (runs_on g.D.Disk c.flush_some.new.self c.in-Ok.ensures.running) (due_step s Check waits)) c.check-answer.ensures.moves done in
    rides_rode g.D.Disk c.runs_are_joined.ensures c.args.pages c.in-Ok.left c.args.self.now c.check-answer.new.self
    (rode_on g.D.Disk c.runs_are_joined.ensures c.args.pages c.in-Ok.left c.in-Ok.left c.args.self.now c.flush_some.new.self c.check-answer.new.self Check c.check-answer.result tt check_beside refl waits
    c.check-answer.ensures rode (omega arith) done)
    (inr (ap (λ (x : Standing). pages_left x.stage) went.1 ∙ checked_none s went.0.left s.stage waits))

pub returns-in-Err-outcome-clause-rides : goal.returns-in-Err-outcome-clause-rides
returns-in-Err-outcome-clause-rides g c =
    let rode = rode_rides g.D.Disk c.runs_are_joined.ensures c.args.pages c.in-Ok.left c.args.self.now c.flush_some.new.self c.in-Ok.ensures.running c.in-Ok.ensures.rides in
    let waits : step_of (facts_of g.D.Disk c.flush_some.new.self).stage ≡ Some Check = sym c.checkpoint_event.ensures ∙ c.in-Some-Check.is ∙ ap Some c.in-Some-Check.field-0-is in
    ride_ended g.D.Disk c.runs_are_joined.ensures c.args.pages c.in-Ok.left c.in-Ok.left c.args.self.now c.flush_some.new.self c.check-answer.new.self Check c.check-answer.result tt check_beside refl waits
    c.check-answer.ensures rode (omega arith) c.in-Err-outcome.refusal (sym c.outcome.ensures ∙ c.in-Err-outcome.is)

pub returns-in-Err-outcome-clause-early : goal.returns-in-Err-outcome-clause-early
returns-in-Err-outcome-clause-early g c =
    let rode = rode_rides g.D.Disk c.runs_are_joined.ensures c.args.pages c.in-Ok.left c.args.self.now c.flush_some.new.self c.in-Ok.ensures.running c.in-Ok.ensures.rides in
    let waits : step_of (facts_of g.D.Disk c.flush_some.new.self).stage ≡ Some Check = sym c.checkpoint_event.ensures ∙ c.in-Some-Check.is ∙ ap Some c.in-Some-Check.field-0-is in
    ride_early g.D.Disk c.runs_are_joined.ensures c.args.pages c.in-Ok.left c.in-Ok.left c.args.self.now c.flush_some.new.self c.check-answer.new.self Check c.check-answer.result tt check_beside refl waits
    c.check-answer.ensures rode (omega arith) c.in-Err-outcome.refusal (sym c.outcome.ensures ∙ c.in-Err-outcome.is)
