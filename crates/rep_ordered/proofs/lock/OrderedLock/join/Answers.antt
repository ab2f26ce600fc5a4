use Rattle.std.proofs.Common.{rules}
use Rattle.rep_ordered.proofs.lock.OrderedLock.join.Goals as goal

pub returns-clause-halted : goal.returns-clause-halted
returns-clause-halted g c = search rules
