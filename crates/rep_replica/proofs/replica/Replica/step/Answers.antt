use Rattle.std.proofs.Common.{sym, ◌∙◌}
use Rattle.rep_replica.proofs.Stepping.{stopped_step}
use Rattle.rep_replica.proofs.replica.Replica.step.Goals as goal

pub returns-then-is_stopped-clause-step : goal.returns-then-is_stopped-clause-step
returns-then-is_stopped-clause-step g c = stopped_step g.D.Disk c.args.self.now c.args.event (sym c.is_stopped.ensures ∙ c.if-is_stopped.true)
