use Rattle.std.proofs.Common.{◌-◌, refl, sym, ◌∙◌, arith}
use Rattle.rep_steps.specs.declared.event.Event.TheVariants.{Flush}
use Rattle.rep_replica.proofs.Committing.{flush_beside}
use Rattle.rep_replica.proofs.Turning.{rode_none, rides_rode, rode_on, ride_ended}
use Rattle.rep_replica.proofs.replica.Replica.flush_some.Goals as goal

pub loop-page-init : goal.loop-page-init
loop-page-init g c = rode_none g.D.Disk c.runs_are_joined.ensures c.args.pages c.args.self.now c.requires.running

pub loop-page-preserved : goal.loop-page-preserved
loop-page-preserved g c =
    rode_on g.D.Disk c.runs_are_joined.ensures c.args.pages c.loop-page.left (c.loop-page.left - 1) c.args.self.now c.loop-page.self c.flush-answer.new.self (Flush c.in-Some.page) c.flush-answer.result tt
    (λ s t f is. flush_beside s t c.in-Some.page f is) refl c.in-Some.ensures.1 c.flush-answer.ensures c.loop-page.invariant (omega (arith, c.in-Some.ensures.0)) (sym c.outcome.ensures ∙ c.in_default-outcome.is)

pub returns-in-Err-clause-rides : goal.returns-in-Err-clause-rides
returns-in-Err-clause-rides g c =
    ride_ended g.D.Disk c.runs_are_joined.ensures c.args.pages c.loop-page.left (c.loop-page.left - 1) c.args.self.now c.loop-page.self c.flush-answer.new.self (Flush c.in-Some.page) c.flush-answer.result tt
    (λ s t f is. flush_beside s t c.in-Some.page f is) refl c.in-Some.ensures.1 c.flush-answer.ensures c.loop-page.invariant (omega (arith, c.in-Some.ensures.0)) c.in-Err.refusal (sym c.outcome.ensures ∙ c.in-Err.is)

pub returns-clause-rides : goal.returns-clause-rides
returns-clause-rides g c = rides_rode g.D.Disk c.runs_are_joined.ensures c.args.pages c.loop-page.left c.args.self.now c.loop-page.self c.loop-page.invariant c.in_default.ensures
