use Rattle.std.proofs.Common.{take}
use Rattle.rep_cert.proofs.Places.{Raised}
use Rattle.rep_cert.proofs.writers.LastWriters.raise_all.Given as goal

-- the rows of the entries so far were raised
abbrev pub invariant-loop-entry : goal.invariant-loop-entry
invariant-loop-entry l = Raised l.schema l.fn.self l.self (take l.entry-index l.entries)
