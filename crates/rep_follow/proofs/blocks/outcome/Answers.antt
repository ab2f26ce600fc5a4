use Rattle.std.proofs.Common.{rules}
use Rattle.rep_follow.proofs.blocks.outcome.Goals as goal

pub returns : goal.returns
returns c = search rules
