use Rattle.std.proofs.lemmas.Grind.{common_steps}
use Rattle.std.proofs.Common.{arith}
use Rattle.rep_follow.proofs.blocks.pages_due.Goals as goal

pub returns : goal.returns
returns c = grind (arith, common_steps)
