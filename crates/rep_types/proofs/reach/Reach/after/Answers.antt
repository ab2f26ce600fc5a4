use Rattle.std.proofs.Common.{rules}
use Rattle.rep_types.proofs.reach.Reach.after.Goals as goal

pub returns : goal.returns
returns c = search rules
