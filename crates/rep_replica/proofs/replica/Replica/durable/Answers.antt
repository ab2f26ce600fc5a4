use Rattle.std.proofs.Common.{rules}
use Rattle.rep_replica.proofs.replica.Replica.durable.Goals as goal

pub returns-clause-durable : goal.returns-clause-durable
returns-clause-durable g c = search rules
