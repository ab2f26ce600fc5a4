use Rattle.std.proofs.Common.{◌≡◌, take}
use Rattle.rep_cert.specs.Writers.{writer, greatest_of}
use Rattle.rep_cert.proofs.writers.LastWriters.last_of_keys.Given as goal

-- the last writer of the keys so far
abbrev pub invariant-loop-key : goal.invariant-loop-key
invariant-loop-key l = l.last ≡ greatest_of (writer l.self.starts.items l.self.seqnos.items) (take l.key-index l.keys)
