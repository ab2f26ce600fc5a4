use Rattle.std.proofs.Common.{◌≡◌, take}
use Rattle.rep_types.specs.Reaches.{reach}
use Rattle.rep_types.specs.Order.{items_of}
use Rattle.rep_plain.proofs.scan.reach_of.Given as goal

-- how far back the window reaches after the items so far
abbrev pub invariant-loop-place : goal.invariant-loop-place
invariant-loop-place l = l.reach ≡ reach l.params (items_of (take l.place l.items))
