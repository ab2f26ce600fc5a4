use Rattle.std.proofs.Common.{◌≡◌, length}
use Rattle.run_trials.proofs.beside.drawn.Draws.item_at.Given as goal

-- one write for each key so far
abbrev pub invariant-loop-key : goal.invariant-loop-key
invariant-loop-key l = length l.writes.items ≡ l.key-index
