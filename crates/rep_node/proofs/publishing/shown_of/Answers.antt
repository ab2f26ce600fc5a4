use Rattle.std.proofs.Common.{rules}
use Rattle.rep_node.proofs.publishing.shown_of.Goals as goal

pub returns : goal.returns
returns c = search rules
