use Rattle.std.proofs.Common.{rules}
use Rattle.uses_ordered.proofs.Passes.{closed_marks}
use Rattle.uses_ordered.proofs.notes.halted_run.Goals as goal

pub returns-clause-notes : goal.returns-clause-notes
returns-clause-notes g c = (search rules, closed_marks _ _ c.close.ensures.values c.in_ok-holder.ensures.free)
