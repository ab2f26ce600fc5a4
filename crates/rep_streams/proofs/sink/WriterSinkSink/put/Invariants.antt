use Rattle.std.proofs.Common.{◌≡◌, ◌≤◌, ◌-◌, length, take}
use Rattle.std.specs.Io.KnownBytes.{Appends}
use Rattle.rep_streams.proofs.sink.WriterSinkSink.put.Given as goal

abbrev pub decreases-loop-taken : goal.decreases-loop-taken
decreases-loop-taken g l = length l.bytes - l.taken

-- what the writer took so far is a front of the bytes
abbrev pub invariant-loop-taken : goal.invariant-loop-taken
invariant-loop-taken g l = (l.taken ≤ length l.bytes) × (l.self.failed ≡ l.initial.self.failed) × Appends (g.W.Write.contents l.initial.self.writer) (g.W.Write.contents l.self.writer) (take l.taken l.bytes)
