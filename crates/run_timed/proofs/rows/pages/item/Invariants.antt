use Rattle.std.proofs.Common.{◌≡◌, length}
use Rattle.run_timed.proofs.rows.pages.item.Given as goal

-- so many writes so far
abbrev pub invariant-loop-i : goal.invariant-loop-i
invariant-loop-i l = length l.writes.items ≡ l.i
