use Rattle.std.proofs.Common.{◌≡◌, take}
use Rattle.rep_service.proofs.same.are_writes.Given as goal

-- those so far are the same
abbrev pub invariant-loop-i : goal.invariant-loop-i
invariant-loop-i l = take l.i l.a ≡ take l.i l.b
