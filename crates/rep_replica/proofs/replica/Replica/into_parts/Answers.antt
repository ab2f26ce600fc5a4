use Rattle.std.proofs.Common.{rules}
use Rattle.rep_replica.proofs.replica.Replica.into_parts.Goals as goal

pub returns-clause-parts : goal.returns-clause-parts
returns-clause-parts g c = search rules
