use Rattle.std.proofs.Common.{◌≡◌, take}
use Rattle.rep_types.specs.Order.{entries, recent}
use Rattle.rep_plain.proofs.scan.recent_entries.Given as goal

-- the recent entries of the items so far
abbrev pub invariant-loop-judged : goal.invariant-loop-judged
invariant-loop-judged l = l.kept.items ≡ recent l.floor (entries (take l.judged-index l.items))
