use Rattle.std.proofs.Common.{ap}
use Rattle.rep_service.specs.Saying.{Limits}
use Rattle.rep_service.specs.Commanding.{IsLimitsOf}
use Rattle.rep_service.proofs.Ordered.{window_is}
use Rattle.rep_service.proofs.Telling.{own_told, own_refused}
use Rattle.rep_service.proofs.commands.answer_limits.Goals as goal

pub returns-in-Ok-clause-tells : goal.returns-in-Ok-clause-tells
returns-in-Ok-clause-tells g c = own_told (IsLimitsOf g.D.Disk c.args.replica.now) (Limits c.in-Ok.window) _ _ c.write_limits.result (ap Limits c.in-Ok.ensures.window, window_is g.D.Disk c.nodes_hold_the_order.ensures c.args.replica.now c.in-Ok.window c.in-Ok.ensures.window c.in-Ok.ensures.node) c.write_limits.ensures.told c.write_limits.ensures.refused

pub returns-in-Err-clause-tells : goal.returns-in-Err-clause-tells
returns-in-Err-clause-tells g c = own_refused (IsLimitsOf g.D.Disk c.args.replica.now) c.in-Err.refusal _ _ c.write_refused.result c.write_refused.ensures.told c.write_refused.ensures.refused
