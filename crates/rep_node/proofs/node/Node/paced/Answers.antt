use Rattle.std.proofs.Common.{rules}
use Rattle.rep_node.proofs.node.Node.paced.Goals as goal

pub returns-then-at-clause-lets : goal.returns-then-at-clause-lets
returns-then-at-clause-lets g c = search rules
