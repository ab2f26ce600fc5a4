use Rattle.std.proofs.Common.{◌∙◌, Ok, Err, ap, sym}
use Rattle.rep_types.specs.Items.{as_item}
use Rattle.rep_record.specs.Reading.{item_line}
use Rattle.rep_types.proofs.Choices.{renewed, not_renewed}
use Rattle.rep_record.proofs.Outcomes.{item_comes, as_write_set, as_refused}
use Rattle.rep_record.proofs.item_line.read_item_line.Goals as goal

pub returns : goal.returns
returns c =
    let given = item_line c.args.number c.args.line.now in
    let here = renewed (as_item given) c.no_effect-item.result c.renew_by_item_line.new.item c.renew_by_item_line.result c.renew_by_item_line.ensures c.in_default.is in
    let exact = as_write_set given c.in-WriteSet.write_set (ap Ok (sym c.in-WriteSet.is) ∙ here) in
    let h = item_comes c.args.number c.args.line.now (Ok c.in-WriteSet.write_set) exact in
    record { found = h.found; formed = h.formed; unformed = h.unformed; exact = exact }

pub returns-in-Err : goal.returns-in-Err
returns-in-Err c =
    let given = item_line c.args.number c.args.line.now in
    let exact = as_refused given c.in-Err.refusal (not_renewed (as_item given) c.no_effect-item.result c.renew_by_item_line.new.item c.renew_by_item_line.result c.in-Err.refusal c.renew_by_item_line.ensures c.in-Err.is) in
    let h = item_comes c.args.number c.args.line.now (Err c.in-Err.refusal) exact in
    record { found = h.found; formed = h.formed; unformed = h.unformed; exact = exact }
