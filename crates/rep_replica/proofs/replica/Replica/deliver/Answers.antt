use Rattle.std.proofs.Common.{sym, ◌∙◌}
use Rattle.rep_steps.specs.Events.{delivery}
use Rattle.rep_replica.proofs.Stepping.{stopped_step}
use Rattle.rep_replica.proofs.replica.Replica.deliver.Goals as goal

pub returns-then-is_stopped-clause-step : goal.returns-then-is_stopped-clause-step
returns-then-is_stopped-clause-step g c = stopped_step g.D.Disk c.args.self.now (delivery c.args.seqno c.args.item.now) (sym c.is_stopped.ensures ∙ c.if-is_stopped.true)
