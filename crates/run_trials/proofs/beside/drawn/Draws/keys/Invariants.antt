use Rattle.std.proofs.Common.{◌≡◌, length}
use Rattle.run_trials.proofs.beside.drawn.Draws.keys.Given as goal

-- one key for each part so far
abbrev pub invariant-loop-i : goal.invariant-loop-i
invariant-loop-i l = length l.keys.items ≡ l.i
