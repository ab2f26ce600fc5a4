use Rattle.std.proofs.Common.{◌≤◌}
use Rattle.rep_node.specs.Jobs.{Adjoin, IsShare, share_from, share_to}
use Rattle.rep_node.proofs.batch.shares_of.Given as goal

abbrev pub invariant-loop-to : goal.invariant-loop-to
invariant-loop-to l = Adjoin share_to share_from (IsShare l.fn.count) l.fn.count l.to l.shares.items × (l.to ≤ l.fn.count)

abbrev pub decreases-loop-to : goal.decreases-loop-to
decreases-loop-to l = l.to
