use Rattle.std.proofs.Common.{length, ap, sym, subst, ◌∙◌}
use Rattle.rep_types.specs.declared.judged.Judged.{Judged}
use Rattle.rep_ordered.specs.declared.view.View.{View}
use Rattle.rep_node.specs.declared.home.Home.{Home}
use Rattle.rep_node.specs.Batches.{AreLetOn}
use Rattle.rep_node.proofs.Serves.{ended_as, has_all, not_both, not_running, refused_as, refused_served, served, stopped_as}
use Rattle.rep_node.proofs.served.serve_batch.Goals as goal

-- ---- a replica that was stopped

pub returns-then-is_stopped-clause-served : goal.returns-then-is_stopped-clause-served
returns-then-is_stopped-clause-served g c running = absurd (not_running c.args.replica c.is_stopped.result c.is_stopped.ensures c.if-is_stopped.true running)

pub returns-then-is_stopped-clause-ended : goal.returns-then-is_stopped-clause-ended
returns-then-is_stopped-clause-ended g c = stopped_as c.args.replica (length c.args.items.now) c.args.replica c.refused.result.receipts.items c.refused.result.end (sym c.is_stopped.ensures ∙ c.if-is_stopped.true) c.refused.ensures.1

-- ---- no node was started

pub returns-in-Err-clause-stopped : goal.returns-in-Err-clause-stopped
returns-in-Err-clause-stopped g c stopped = absurd (not_both c.is_stopped.result _ c.is_stopped.ensures c.if-is_stopped.false stopped)

pub returns-in-Err-clause-served : goal.returns-in-Err-clause-served
returns-in-Err-clause-served g c running = refused_served g.D.Disk c.histories_lie_between_replicas.ensures c.histories_extend_the_order.ensures c.args.replica c.in-Err.replica c.args.items.now c.refused-in-Err.result.receipts.items c.refused-in-Err.result.end c.in-Err.refusal
    c.durable-position.ensures.replica running c.requires.quiet c.in-Err.ensures.refused.0 c.refused-in-Err.ensures.0 c.refused-in-Err.ensures.1

pub returns-in-Err-clause-ended : goal.returns-in-Err-clause-ended
returns-in-Err-clause-ended g c = refused_as _ (length c.args.items.now) c.args.replica c.in-Err.replica c.refused-in-Err.result.receipts.items c.refused-in-Err.result.end c.in-Err.refusal c.in-Err.ensures.refused.0 c.refused-in-Err.ensures.0 c.refused-in-Err.ensures.1 c.in-Err.ensures.refused.1

-- ---- a node was started, and closed

pub close-requires-clause-all : goal.close-requires-clause-all
close-requires-clause-all g c = has_all c.in-Ok.made.1.view c.serve-batch.new.seat.view (ap (λ (z : View (Home g.row.D.Denot) Judged). z.own) c.in-Ok.ensures.view)
    (ap (λ (z : View (Home g.row.D.Denot) Judged). z.allowance) c.in-Ok.ensures.view ∙ sym (ap (λ (z : View (Home g.row.D.Denot) Judged). z.whole) c.in-Ok.ensures.view)) c.serve-batch.ensures.handed_in.went

pub returns-clause-stopped : goal.returns-clause-stopped
returns-clause-stopped g c stopped = absurd (not_both c.is_stopped.result _ c.is_stopped.ensures c.if-is_stopped.false stopped)

pub returns-clause-served : goal.returns-clause-served
returns-clause-served g c running = served g.D.Disk c.histories_extend_the_order.ensures c.args.replica c.close.result c.args.items.now c.in-Ok.made.1.view c.serve-batch.new.seat.view c.in-Ok.made.2.items c.serve-batch.result.receipts.items c.serve-batch.result.end
    (ap (λ (z : View (Home g.row.D.Denot) Judged). z.start) c.in-Ok.ensures.view) (ap (λ (z : View (Home g.row.D.Denot) Judged). z.own) c.in-Ok.ensures.view) c.in-Ok.ensures.starts c.serve-batch.ensures.handed_in.went c.serve-batch.ensures.handed_in.batch c.serve-batch.ensures.handed_in.order c.serve-batch.ensures.handed_in.whole c.serve-batch.ensures.handed_in.ended c.close.ensures.ends

pub returns-clause-ended : goal.returns-clause-ended
returns-clause-ended g c = ended_as (length c.args.items.now) c.serve-batch.new.seat.view.halted c.in-Ok.made.1.view.allowance c.args.replica c.close.result c.in-Ok.made.1.view.own c.serve-batch.new.seat.view.own c.serve-batch.result.receipts.items c.serve-batch.result.end
    (ap (λ (z : View (Home g.row.D.Denot) Judged). z.allowance) c.in-Ok.ensures.view) c.close.ensures.stopped.1 c.serve-batch.ensures.handed_in.ended

pub returns-then-is_stopped-clause-paced : goal.returns-then-is_stopped-clause-paced
returns-then-is_stopped-clause-paced g c = subst (AreLetOn (g.P.Pace.lets c.args.pace.now)) (sym c.refused.ensures.0) tt

pub returns-in-Err-clause-paced : goal.returns-in-Err-clause-paced
returns-in-Err-clause-paced g c = subst (AreLetOn (g.P.Pace.lets c.args.pace.now)) (sym c.refused-in-Err.ensures.0) tt

pub returns-clause-paced : goal.returns-clause-paced
returns-clause-paced g c = c.serve-batch.ensures.handed_in.paced
