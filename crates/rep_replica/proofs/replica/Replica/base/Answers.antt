use Rattle.std.proofs.Common.{rules}
use Rattle.rep_replica.proofs.replica.Replica.base.Goals as goal

pub returns : goal.returns
returns g c = search rules
