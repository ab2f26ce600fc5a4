use Rattle.std.proofs.Common.{Ok, Err}
use Rattle.rep_service.proofs.Telling.{tells_sum}
use Rattle.rep_service.proofs.commands.answer_sum.Goals as goal

pub returns-in-Ok-clause-tells : goal.returns-in-Ok-clause-tells
returns-in-Ok-clause-tells g c =
    tells_sum g.D.Disk c.args.position c.args.replica.now c.sum_at.new.replica _ _ c.write_sum.result c.position_of-at.result c.position_of-at.ensures (Ok c.in-Ok.sum) c.in-Ok.ensures.sum (c.write_sum.ensures.told, c.write_sum.ensures.refused) c.in-Ok.ensures.order

pub returns-in-Err-clause-tells : goal.returns-in-Err-clause-tells
returns-in-Err-clause-tells g c =
    tells_sum g.D.Disk c.args.position c.args.replica.now c.sum_at.new.replica _ _ c.refuse.result c.position_of-at.result c.position_of-at.ensures (Err c.in-Err.refusal) c.in-Err.ensures.sum c.refuse.ensures.refuses (λ n L holds of. tt)
