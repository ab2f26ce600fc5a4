use Rattle.std.proofs.Common.{◌≡◌, ◌<◌, ◌-◌, drop, length, get_or}
use Rattle.rep_types.specs.Keys.{disorder, disorder_after}
use Rattle.rep_types.proofs.Disorder.{no_key}
use Rattle.rep_types.proofs.write_set.first_disorder.Given as goal

-- what is wrong with the keys is wrong from place i on
abbrev pub invariant-loop-i : goal.invariant-loop-i
invariant-loop-i l =
    0 < length l.keys → disorder l.keys ≡ disorder_after l.i (get_or l.keys (l.i - 1) no_key) (drop l.i l.keys)
