use Rattle.std.proofs.Common.{rules}
use Rattle.rep_replica.proofs.step.wrote.Goals as goal

pub returns-in-Ok : goal.returns-in-Ok
returns-in-Ok c = search rules
