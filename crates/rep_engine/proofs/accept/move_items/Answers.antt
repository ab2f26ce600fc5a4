use Rattle.std.proofs.Common.{rules}
use Rattle.rep_engine.proofs.accept.move_items.Goals as goal

pub returns-clause-gathered : goal.returns-clause-gathered
returns-clause-gathered c = search rules
