use Rattle.std.proofs.Common.{rules}
use Rattle.rep_pages.proofs.slots.spare_of.Goals as goal

pub returns-in-In-First-clause-slot : goal.returns-in-In-First-clause-slot
returns-in-In-First-clause-slot c = search rules

pub returns-in-In-First-clause-other : goal.returns-in-In-First-clause-other
returns-in-In-First-clause-other c = search rules
