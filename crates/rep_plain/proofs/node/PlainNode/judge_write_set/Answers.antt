use Rattle.std.proofs.Common.{rules}
use Rattle.rep_plain.proofs.node.PlainNode.judge_write_set.Goals as goal

pub returns-then-seen-floor : goal.returns-then-seen-floor
returns-then-seen-floor c = search rules
