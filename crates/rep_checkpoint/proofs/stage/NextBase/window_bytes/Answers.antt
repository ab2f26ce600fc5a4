use Rattle.std.proofs.Common.{rules}
use Rattle.rep_checkpoint.proofs.stage.NextBase.window_bytes.Goals as goal

pub unreachable-requires : goal.unreachable-requires
unreachable-requires c = search rules
