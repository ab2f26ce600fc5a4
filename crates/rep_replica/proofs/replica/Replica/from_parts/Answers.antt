use Rattle.std.proofs.Common.{rules}
use Rattle.rep_replica.proofs.replica.Replica.from_parts.Goals as goal

pub invariant_of-result : goal.invariant_of-result
invariant_of-result g c = search rules
