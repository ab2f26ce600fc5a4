use Rattle.std.proofs.Common.{◌≡◌, take}
use Rattle.rep_types.specs.Order.{seqnos_against, entries, greatest}
use Rattle.rep_plain.proofs.scan.greatest_conflict.Given as goal

-- the greatest conflict among the items so far
abbrev pub invariant-loop-earlier : goal.invariant-loop-earlier
invariant-loop-earlier l = l.found ≡ greatest (seqnos_against l.item (entries (take l.earlier-index l.items)))
