use Rattle.std.proofs.Common.{rules}
use Rattle.rep_ordered.proofs.front.Front.of.Goals as goal

pub returns-clause-halted : goal.returns-clause-halted
returns-clause-halted c = search rules
