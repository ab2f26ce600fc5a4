use Rattle.uses_replica.proofs.Bringing.{Put}
use Rattle.uses_replica.proofs.install.put_all.Given as goal

-- the pages so far came, and the others are left
abbrev pub invariant-loop-page : goal.invariant-loop-page
invariant-loop-page g l = Put g.D.Disk l.fn.pages.items l.page-iterator.rest.items l.fn.installation l.installation
