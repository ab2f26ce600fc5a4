use Rattle.std.proofs.Common.{◌≡◌, length}
use Rattle.std.specs.Io.KnownBytes.{Keeps}
use Rattle.rep_reasons.proofs.patient.PatientRead.read.Given as goal

-- a read that would wait takes nothing
abbrev pub invariant-loop : goal.invariant-loop
invariant-loop g l = (length l.room ≡ length l.initial.room) × Keeps (g.T.Read.remaining l.initial.self.inside) (g.T.Read.remaining l.self.inside)
