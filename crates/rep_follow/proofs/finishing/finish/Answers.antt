use Rattle.std.proofs.Common.{refl, Ok, Err}
use Rattle.rep_types.specs.declared.refusal.Refusal.TheVariants.{Stopped}
use Rattle.rep_follow.proofs.Committing.{told_stopped}
use Rattle.rep_follow.proofs.Settled.{tells_settled}
use Rattle.rep_follow.proofs.finishing.finish.Goals as goal

pub returns-then-is_stopped-clause-settles : goal.returns-then-is_stopped-clause-settles
returns-then-is_stopped-clause-settles g c =
    record { mid = c.args.replica.now; between = c.args.counts.now; told = Err Stopped; tells = told_stopped g.D.Disk c.args.replica.now c.args.counts.now (g.W.Sink.contents c.args.writer.now) c.limits.ensures; settles = (refl, refl) }

pub returns-then-is_stopped-clause-tells : goal.returns-then-is_stopped-clause-tells
returns-then-is_stopped-clause-tells g c waits = told_stopped g.D.Disk c.args.replica.now c.args.counts.now (g.W.Sink.contents c.args.writer.now) c.limits.ensures

pub returns-in-Ok-clause-settles : goal.returns-in-Ok-clause-settles
returns-in-Ok-clause-settles g c = record { mid = c.commit_all.new.replica; between = c.commit_all.new.counts; told = Ok c.in-Ok.field-0; tells = c.in-Ok.ensures.tells; settles = c.settle.ensures.works }

pub returns-in-Ok-clause-tells : goal.returns-in-Ok-clause-tells
returns-in-Ok-clause-tells g c waits =
    tells_settled g.D.Disk c.args.replica.now c.commit_all.new.replica c.settle.new.replica c.args.counts.now c.commit_all.new.counts c.settle.new.counts (g.W.Sink.contents c.args.writer.now) (g.W.Sink.contents c.commit_all.new.writer)
    c.in-Ok.field-0 c.settle.result c.in-Ok.ensures.tells c.settle.ensures.works c.settle.ensures.counted waits

pub returns-in-Err-clause-settles : goal.returns-in-Err-clause-settles
returns-in-Err-clause-settles g c = record { mid = c.commit_all.new.replica; between = c.commit_all.new.counts; told = Err c.in-Err.refusal; tells = c.in-Err.ensures.tells; settles = (refl, refl) }
