use Rattle.rep_versions.proofs.Pages.{Gathers}
use Rattle.rep_versions.proofs.versions.Versions.pages.Given as goal

-- the pages of the rows so far
abbrev pub invariant-loop-key : goal.invariant-loop-key
invariant-loop-key l = Gathers l.self l.schema l.base l.position l.pages.items l.key-iterator
