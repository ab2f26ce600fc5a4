use Rattle.std.proofs.Common.{◌≡◌}
use Rattle.std.specs.Io.KnownBytes.{Keeps}
use Rattle.rep_streams.proofs.sink.WriterSink.put_some.Given as goal

-- a write that fails takes nothing
abbrev pub invariant-loop : goal.invariant-loop
invariant-loop g l = (l.self.failed ≡ l.initial.self.failed) × Keeps (g.W.Write.contents l.initial.self.writer) (g.W.Write.contents l.self.writer)
