use Rattle.std.proofs.Common.{Some, Err, sym, subst}
use Rattle.rep_record.specs.Reading.{item_in, order_outcome}
use Rattle.rep_script.specs.ScriptLines.{delivery_of}
use Rattle.rep_script.specs.Scripts.{RunsDiskLine}
use Rattle.rep_script.proofs.Scripting.{runs_delivery, fails_delivery}
use Rattle.rep_script.proofs.script.run_delivery.Goals as goal

pub returns-in-Err-clause-runs : goal.returns-in-Err-clause-runs
returns-in-Err-clause-runs g c =
    subst (λ said. RunsDiskLine g.D.Disk c.args.replica.now (Some (delivery_of c.args.number said)) (Err c.in-Err.refusal) c.args.replica.now) (sym c.in-Some.ensures)
    (fails_delivery g.D.Disk c.args.replica.now (order_outcome c.args.number (item_in c.next_number.new.words)) c.args.item.now c.renew_stated.new.item c.renew_stated.result c.in-Err.refusal c.renew_stated.ensures.value c.in-Err.is c.in-Some.seqno)

pub returns-clause-runs : goal.returns-clause-runs
returns-clause-runs g c =
    subst (λ said. RunsDiskLine g.D.Disk c.args.replica.now (Some (delivery_of c.args.number said)) c.write_answer.result c.deliver-answer.new.self) (sym c.in-Some.ensures)
    (runs_delivery g.D.Disk c.args.replica.now c.deliver-answer.new.self (order_outcome c.args.number (item_in c.next_number.new.words)) c.args.item.now c.renew_stated.new.item c.renew_stated.result c.renew_stated.ensures.value c.in_default-renew_stated.is
    c.in-Some.seqno c.deliver-answer.result c.deliver-answer.ensures.step c.write_answer.result c.write_answer.ensures.refused)
