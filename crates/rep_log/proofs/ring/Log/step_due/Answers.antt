use Rattle.std.proofs.Common.{rules}
use Rattle.rep_log.proofs.ring.Log.step_due.Goals as goal

pub returns-then-self-index : goal.returns-then-self-index
returns-then-self-index c = search rules

pub returns-else-self-index : goal.returns-else-self-index
returns-else-self-index c = search rules
