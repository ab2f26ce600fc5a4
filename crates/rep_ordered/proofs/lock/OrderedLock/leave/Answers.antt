use Rattle.std.proofs.Common.{rules}
use Rattle.rep_ordered.proofs.lock.OrderedLock.leave.Goals as goal

pub leave_as-requires-clause-entry : goal.leave_as-requires-clause-entry
leave_as-requires-clause-entry g c = search rules
