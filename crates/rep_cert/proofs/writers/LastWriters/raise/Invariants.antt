use Rattle.std.proofs.Common.{[], ◌∷◌, take}
use Rattle.rep_cert.proofs.Places.{Raised}
use Rattle.rep_cert.proofs.writers.LastWriters.raise.Given as goal

-- the rows of the keys so far were raised
abbrev pub invariant-loop-key : goal.invariant-loop-key
invariant-loop-key l = Raised l.schema l.fn.self l.self ((record { seqno = l.entry.seqno; keys = take l.key-index l.entry.keys }) ∷ [])
