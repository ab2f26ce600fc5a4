use Rattle.std.proofs.Common.{◌∙◌, ap}
use Rattle.rep_types.specs.Windows.{Window}
use Rattle.rep_engine.specs.Engines.{gtid_of}
use Rattle.rep_service.specs.Saying.{State}
use Rattle.rep_service.specs.Commanding.{IsStateOf}
use Rattle.rep_service.proofs.Ordered.{window_is}
use Rattle.rep_service.proofs.Telling.{own_told, own_refused}
use Rattle.rep_service.proofs.commands.answer_state.Goals as goal

pub returns-in-Ok-clause-tells : goal.returns-in-Ok-clause-tells
returns-in-Ok-clause-tells g c =
    let r = c.args.replica.now in
    own_told (IsStateOf g.D.Disk r) (State (gtid_of r.engine) r.engine.checkpoint.base.position c.entries.result.now) _ _ c.write_state.result
    (ap (State (gtid_of r.engine) r.engine.checkpoint.base.position) (c.entries.ensures ∙ ap (λ (v : Window). v.entries) c.in-Ok.ensures.window), window_is g.D.Disk c.nodes_hold_the_order.ensures r c.in-Ok.window c.in-Ok.ensures.window c.in-Ok.ensures.node)
    c.write_state.ensures.told c.write_state.ensures.refused

pub returns-in-Err-clause-tells : goal.returns-in-Err-clause-tells
returns-in-Err-clause-tells g c = own_refused (IsStateOf g.D.Disk c.args.replica.now) c.in-Err.refusal _ _ c.write_refused.result c.write_refused.ensures.told c.write_refused.ensures.refused
