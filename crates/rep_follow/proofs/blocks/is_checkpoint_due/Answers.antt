use Rattle.std.proofs.Common.{rules}
use Rattle.rep_follow.proofs.blocks.is_checkpoint_due.Goals as goal

pub returns-then-base-durable : goal.returns-then-base-durable
returns-then-base-durable g c = search rules
