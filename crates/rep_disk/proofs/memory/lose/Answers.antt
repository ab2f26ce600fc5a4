use Rattle.std.proofs.Common.{rules}
use Rattle.rep_disk.proofs.memory.lose.Goals as goal

pub returns-in-Drop-clause-lost : goal.returns-in-Drop-clause-lost
returns-in-Drop-clause-lost c = search rules
