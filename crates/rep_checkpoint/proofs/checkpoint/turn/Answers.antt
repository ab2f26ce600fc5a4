use Rattle.std.proofs.Common.{rules}
use Rattle.rep_checkpoint.proofs.checkpoint.turn.Goals as goal

pub returns-in-In-First-true : goal.returns-in-In-First-true
returns-in-In-First-true c = search rules
