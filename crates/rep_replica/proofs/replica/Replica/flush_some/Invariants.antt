use Rattle.rep_replica.proofs.Turning.{Rode}
use Rattle.rep_replica.proofs.replica.Replica.flush_some.Given as goal

-- the pages so far, none of which was refused
abbrev pub invariant-loop-page : goal.invariant-loop-page
invariant-loop-page g l = Rode g.D.Disk l.fn.pages l.left l.initial.self l.self

abbrev pub decreases-loop-page : goal.decreases-loop-page
decreases-loop-page g l = l.left
