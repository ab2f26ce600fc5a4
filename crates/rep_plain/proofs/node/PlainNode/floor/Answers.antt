use Rattle.std.proofs.Common.{rules}
use Rattle.rep_plain.proofs.node.PlainNode.floor.Goals as goal

pub returns : goal.returns
returns c = search rules
