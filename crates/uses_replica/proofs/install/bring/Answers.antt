use Rattle.std.proofs.Common.{refl}
use Rattle.uses_replica.proofs.Bringing.{brought, dropped, end_failed, not_begun}
use Rattle.uses_replica.proofs.install.bring.Goals as goal

pub returns-in-Ok-put_all : goal.returns-in-Ok-put_all
returns-in-Ok-put_all g c = λ n holds.
    brought g.D.Disk n c.args.uuid c.args.position c.args.window c.args.pages.items c.args.replica c.in-Ok.installation c.put_all.new.installation c.in-Ok.ensures.begun (c.in-Ok.ensures.holds n holds)
    c.end.result.0 c.end.result.1 c.in-Ok-put_all.ensures (λ z h. c.end.ensures.installs n z h)
    (end_failed g.D.Disk c.put_all.new.installation c.end.result.0 c.end.result.1 c.put_all.new.installation.engine.halted refl c.end.ensures.stopped c.end.ensures.lands)

pub returns-in-Err-put_all : goal.returns-in-Err-put_all
returns-in-Err-put_all g c = λ n holds.
    dropped g.D.Disk n c.args.uuid c.args.position c.args.window c.args.pages.items c.args.replica c.in-Ok.installation c.put_all.new.installation c.in-Ok.ensures.begun (c.in-Ok.ensures.holds n holds)
    c.give_up.result c.in-Err-put_all.refusal c.in-Err-put_all.ensures c.give_up.ensures.replica (λ z h. c.give_up.ensures.holds n z h)

pub returns-in-Err : goal.returns-in-Err
returns-in-Err g c = λ n holds. not_begun g.D.Disk n c.args.uuid _ c.args.replica _ _ c.in-Err.ensures.refused.0 holds
