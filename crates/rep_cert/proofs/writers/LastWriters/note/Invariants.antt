use Rattle.std.proofs.Common.{◌≡◌, ℕ, ◌<◌, if◌then◌else◌, length, map, take, get_or, All}
use Rattle.rep_types.specs.Transactions.{key_of}
use Rattle.rep_cert.specs.declared.writers.Former.{Former}
use Rattle.rep_cert.specs.Writers.{is_placed, restored}
use Rattle.rep_cert.proofs.writers.LastWriters.note.Given as goal

-- the rows of the writes so far have the item as their writer, and what they had can be given back
abbrev pub invariant-loop-write : goal.invariant-loop-write
invariant-loop-write l = record {
  starts : l.self.starts ≡ l.fn.self.starts;
  size : length l.self.seqnos.items ≡ length l.fn.self.seqnos.items;
  count : length l.self.former.items ≡ l.write-index;
  noted : (i : ℕ) → i < length l.fn.self.seqnos.items →
      get_or l.self.seqnos.items i 0 ≡ (if is_placed l.fn.self.starts.items (map key_of (take l.write-index l.item.writes)) i then l.seqno else get_or l.fn.self.seqnos.items i 0);
  inside : All (λ (f : Former). f.place < length l.fn.self.seqnos.items) l.self.former.items;
  before : restored l.self.former.items l.self.seqnos.items ≡ l.fn.self.seqnos.items;
}
