use Rattle.std.proofs.Common.{◌≡◌, ◌-◌, get_or, drop}
use Rattle.rep_types.specs.Keys.{disorder, disorder_after}
use Rattle.rep_types.proofs.Disorder.{no_key}
use Rattle.rep_layout.proofs.window_reader.is_ascending.Given as goal

-- no key so far is out of order
abbrev pub invariant-loop-i : goal.invariant-loop-i
invariant-loop-i l = disorder l.keys ≡ disorder_after l.i (get_or l.keys (l.i - 1) no_key) (drop l.i l.keys)
