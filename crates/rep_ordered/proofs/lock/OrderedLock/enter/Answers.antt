use Rattle.std.proofs.Common.{refl, rules}
use Rattle.rep_ordered.proofs.Places.{later_same}
use Rattle.rep_ordered.proofs.lock.OrderedLock.enter.Goals as goal

pub loop-init : goal.loop-init
loop-init g c = (refl, later_same _, λ _. refl)

pub try_enter-requires-clause-ticket : goal.try_enter-requires-clause-ticket
try_enter-requires-clause-ticket g c = search rules
