use Rattle.std.proofs.Common.{◌≡◌, Result, Ok, Err, sym, ◌∙◌}
use Rattle.rep_types.specs.declared.item.Item.{Item}
use Rattle.rep_types.specs.declared.refusal.Refusal.{Refusal}
use Rattle.rep_record.proofs.Publishing.{item_passes}
use Rattle.rep_requests.proofs.texts.is_item.Goals as goal

-- what is within its limits is not refused
pub returns-in-Err-clause-stated : goal.returns-in-Err-clause-stated
returns-in-Err-clause-stated c i is =
    absurd (let never : ◌≡◌ {A = Result Item Refusal} (Err c.in-Err.field-0) (Ok i) = sym c.in-Err.is ∙ c.read_order_line.ensures.formed i is.line ∙ item_passes 0 i is.within in cc)
