use Rattle.std.proofs.Common.{rules}
use Rattle.rep_backlog.proofs.backlog.Backlog.push.Goals as goal

pub returns-clause-pushed : goal.returns-clause-pushed
returns-clause-pushed c = search rules

pub returns-clause-backlogged : goal.returns-clause-backlogged
returns-clause-backlogged c = search rules
