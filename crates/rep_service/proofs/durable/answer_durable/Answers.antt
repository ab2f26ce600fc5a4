use Rattle.std.proofs.Common.{rules}
use Rattle.rep_service.proofs.durable.answer_durable.Goals as goal

pub returns-then-not-is_item-clause-another : goal.returns-then-not-is_item-clause-another
returns-then-not-is_item-clause-another g c = search rules

pub returns-clause-only : goal.returns-clause-only
returns-clause-only g c = search rules
