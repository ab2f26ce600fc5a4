use Rattle.std.proofs.Common.{Ok, Err}
use Rattle.rep_record.specs.Reading.{order_form, order_line}
use Rattle.rep_types.proofs.Choices.{renewed, not_renewed}
use Rattle.rep_record.proofs.Outcomes.{order_comes, order_own}
use Rattle.rep_record.proofs.order_line.read_order_line.Goals as goal

pub returns-in-Ok : goal.returns-in-Ok
returns-in-Ok c =
    let exact = renewed (order_line c.args.number c.args.line.now) c.no_effect-item.result c.renew_order_line.new.item c.renew_order_line.result c.renew_order_line.ensures.value c.in-Ok.is in
    let h = order_comes c.args.number c.args.line.now (Ok c.renew_order_line.new.item) exact in
    record { found = h.found; formed = h.formed; unformed = h.unformed; exact = exact; own = tt }

pub returns-in-Err : goal.returns-in-Err
returns-in-Err c =
    let exact = not_renewed (order_line c.args.number c.args.line.now) c.no_effect-item.result c.renew_order_line.new.item c.renew_order_line.result c.in-Err.refusal c.renew_order_line.ensures.value c.in-Err.is in
    let h = order_comes c.args.number c.args.line.now (Err c.in-Err.refusal) exact in
    record { found = h.found; formed = h.formed; unformed = h.unformed; exact = exact; own = order_own c.args.number (order_form c.args.line.now) (Err c.in-Err.refusal) exact }
