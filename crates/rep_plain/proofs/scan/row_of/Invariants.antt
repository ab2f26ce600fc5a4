use Rattle.std.proofs.Common.{◌≡◌, take}
use Rattle.std.specs.Option.{option_copied}
use Rattle.rep_types.specs.Order.{effects, row_in}
use Rattle.rep_plain.proofs.scan.row_of.Given as goal

-- the row after the items so far
abbrev pub invariant-loop-judged : goal.invariant-loop-judged
invariant-loop-judged l = option_copied l.row ≡ row_in (effects (take l.judged-index l.items)) l.key
