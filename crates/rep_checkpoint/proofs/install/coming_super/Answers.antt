use Rattle.std.proofs.Common.{rules}
use Rattle.rep_checkpoint.proofs.install.coming_super.Goals as goal

pub returns : goal.returns
returns c = search rules
