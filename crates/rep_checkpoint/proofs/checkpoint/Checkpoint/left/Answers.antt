use Rattle.std.proofs.Common.{rules}
use Rattle.rep_checkpoint.proofs.checkpoint.Checkpoint.left.Goals as goal

pub returns-in-Toward-default-Flushing : goal.returns-in-Toward-default-Flushing
returns-in-Toward-default-Flushing c = search rules
