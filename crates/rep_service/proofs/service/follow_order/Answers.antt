use Rattle.std.proofs.Common.{Ok, ap, arith}
use Rattle.rep_types.specs.declared.refusal.Refusal.TheVariants.{Exhausted}
use Rattle.rep_service.proofs.Orders.{order_not, order_stopped, order_short, order_follows}
use Rattle.rep_service.proofs.service.follow_order.Goals as goal

pub returns-in-Ok-false-clause-lives : goal.returns-in-Ok-false-clause-lives
returns-in-Ok-false-clause-lives g c = order_short g.D.Disk c.args.position c.args.replica.now c.pass_durable.new.replica _ _ c.pass_durable.new.position _ _ c.in-Ok-false.ensures.lives c.in-Ok-false.ensures.within

pub returns-in-Err-clause-lives : goal.returns-in-Err-clause-lives
returns-in-Err-clause-lives g c = order_not g.D.Disk c.args.position c.args.replica.now c.pass_durable.new.replica _ _ c.pass_durable.new.position _ _ c.in-Err.refusal c.in-Err.ensures.lives

pub returns-in_default-clause-lives : goal.returns-in_default-clause-lives
returns-in_default-clause-lives g c = order_stopped g.D.Disk c.args.position c.args.replica.now c.pass_durable.new.replica _ _ c.pass_durable.new.position _ _ Exhausted (λ is. cc) c.in-Ok-true.ensures.lives

pub returns-clause-lives : goal.returns-clause-lives
returns-clause-lives g c =
    order_follows g.D.Disk c.parts_are_joined.ensures c.args.position c.args.replica.now c.pass_durable.new.replica c.follow_text.new.replica _ _ _ _ _ _ c.pass_durable.new.position _ _ c.follow_text.result c.in-Ok-true.ensures.lives (c.in-Ok-true.ensures.all (ap Ok c.in-Ok-true.field-0-test))
    (omega (arith, c.in-Some.ensures, c.in-Some.is)) c.follow_text.ensures.lives
