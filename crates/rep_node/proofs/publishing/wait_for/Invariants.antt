use Rattle.std.proofs.Common.{◌≡◌, ◌++◌, take}
use Rattle.rep_node.specs.Publishing.{shown}
use Rattle.rep_node.proofs.publishing.wait_for.Given as goal

-- the first items wait behind what waited
abbrev pub invariant-loop-i : goal.invariant-loop-i
invariant-loop-i l = l.waiting ≡ l.fn.waiting ++ shown (take l.i l.backlog)
