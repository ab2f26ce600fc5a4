use Rattle.std.proofs.Common.{arith}
use Rattle.uses_ordered.proofs.notes.halt_and_give_up.Goals as goal

pub give_up-requires-clause-value : goal.give_up-requires-clause-value
give_up-requires-clause-value c = omega arith
