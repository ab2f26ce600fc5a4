use Rattle.std.proofs.Common.{◌≡◌, map, take}
use Rattle.rep_types.specs.Transactions.{key_of}
use Rattle.rep_cert.specs.Writers.{writer, greatest_of}
use Rattle.rep_cert.proofs.writers.LastWriters.last_of_writes.Given as goal

-- the last writer of the rows so far
abbrev pub invariant-loop-write : goal.invariant-loop-write
invariant-loop-write l = l.last ≡ greatest_of (writer l.self.starts.items l.self.seqnos.items) (map key_of (take l.write-index l.writes))
