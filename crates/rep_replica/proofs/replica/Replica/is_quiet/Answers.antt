use Rattle.std.proofs.lemmas.Grind.{common_steps}
use Rattle.std.proofs.Common.{arith}
use Rattle.rep_replica.proofs.replica.Replica.is_quiet.Goals as goal

pub returns-then-delivered-durable : goal.returns-then-delivered-durable
returns-then-delivered-durable g c = grind (arith, common_steps)
