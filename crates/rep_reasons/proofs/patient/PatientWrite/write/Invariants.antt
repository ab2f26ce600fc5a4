use Rattle.std.proofs.Common.{◌≡◌}
use Rattle.std.specs.Io.KnownBytes.{Keeps}
use Rattle.rep_reasons.proofs.patient.PatientWrite.write.Given as goal

-- a write that would wait takes nothing
abbrev pub invariant-loop : goal.invariant-loop
invariant-loop g l = Keeps (g.T.Write.contents l.initial.self.inside) (g.T.Write.contents l.self.inside)
