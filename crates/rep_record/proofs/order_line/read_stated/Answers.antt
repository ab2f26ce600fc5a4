use Rattle.rep_record.specs.Reading.{item_in, order_outcome}
use Rattle.rep_types.proofs.Choices.{not_renewed}
use Rattle.rep_record.proofs.order_line.read_stated.Goals as goal

pub returns-in-Err-clause-value : goal.returns-in-Err-clause-value
returns-in-Err-clause-value c =
    not_renewed (order_outcome c.args.number (item_in c.args.words)) c.no_effect-item.result c.renew_stated.new.item c.renew_stated.result c.in-Err.refusal c.renew_stated.ensures.value c.in-Err.is
