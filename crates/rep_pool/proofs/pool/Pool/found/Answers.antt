use Rattle.std.proofs.Common.{rules}
use Rattle.rep_pool.proofs.pool.Pool.found.Goals as goal

pub returns : goal.returns
returns c = search rules
