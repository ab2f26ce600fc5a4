use Rattle.std.proofs.Common.{◌≡◌, length}
use Rattle.std.specs.Io.KnownBytes.{Keeps}
use Rattle.rep_streams.proofs.source.ReaderSourceSource.read.Given as goal

-- a read that fails takes nothing
abbrev pub invariant-loop : goal.invariant-loop
invariant-loop g l = (length l.room ≡ length l.initial.room) × (l.self.failed ≡ l.initial.self.failed) × Keeps (g.R.Read.remaining l.initial.self.reader) (g.R.Read.remaining l.self.reader)
