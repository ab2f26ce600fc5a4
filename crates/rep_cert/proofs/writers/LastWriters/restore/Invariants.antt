use Rattle.std.proofs.Common.{◌≡◌, ◌<◌, length, All}
use Rattle.rep_cert.specs.declared.writers.Former.{Former}
use Rattle.rep_cert.specs.Writers.{restored}
use Rattle.rep_cert.proofs.writers.LastWriters.restore.Given as goal

-- what is left to give back comes to the same
abbrev pub invariant-loop-former : goal.invariant-loop-former
invariant-loop-former l = record {
  starts : l.self.starts ≡ l.fn.self.starts;
  inside : All (λ (f : Former). f.place < length l.self.seqnos.items) l.self.former.items;
  same : restored l.self.former.items l.self.seqnos.items ≡ restored l.fn.self.former.items l.fn.self.seqnos.items;
}

abbrev pub decreases-loop-former : goal.decreases-loop-former
decreases-loop-former l = length l.self.former.items
