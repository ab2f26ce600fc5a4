use Rattle.std.proofs.Common.{rules}
use Rattle.rep_transfer.proofs.part.next_part.Goals as goal

pub returns-in_default-letter-clause-known : goal.returns-in_default-letter-clause-known
returns-in_default-letter-clause-known c = search rules
