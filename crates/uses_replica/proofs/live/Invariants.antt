use Rattle.std.proofs.Common.{take}
use Rattle.uses_replica.proofs.Going.{Going}
use Rattle.uses_replica.proofs.live.Given as goal

-- the lives so far led from the first disk to the one in hand
abbrev pub invariant-loop-events : goal.invariant-loop-events
invariant-loop-events g l = g.D.Disk.honest l.fn.disk → Going g.D.Disk l.fn.disk (take l.events-index l.lives) l.told.items l.disk
