use Rattle.std.proofs.Common.{rules}
use Rattle.rep_checkpoint.proofs.checkpoint.Checkpoint.go_on.Goals as goal

pub returns : goal.returns
returns c = search rules
