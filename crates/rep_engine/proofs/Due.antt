-- What is due isn't refused.
use Rattle.std.proofs.Common.{◌≡◌, List, None, ap, arith}
use Rattle.std.proofs.lemmas.Bool.Decides.{nat_tests}
use Rattle.rep_types.specs.declared.judged.Judged.{Judged}
use Rattle.rep_record.specs.Blocks.{first_seqno}
use Rattle.rep_layout.specs.declared.place.Layout.{Layout}
use Rattle.rep_log.specs.declared.phase.Step.TheVariants.{Recycle, Seal, Gate}
use Rattle.rep_log.specs.Standing.{Standing, due_of}
use Rattle.rep_log.specs.Moves.{unless_due, step_refusal, seal_refusal}

pub recycle_due : (l : Layout) (log : Standing) → l.cells ≡ log.cells → due_of log ≡ Recycle → step_refusal Recycle l log ≡ None
recycle_due l log same due = let step : unless_due Recycle (due_of log) ≡ None = ap (unless_due Recycle) due in grind (arith, nat_tests)

pub seal_due : (l : Layout) (log : Standing) (block : List Judged) → l.cells ≡ log.cells → first_seqno block ≡ log.seqno → due_of log ≡ Seal → seal_refusal l log block ≡ None
seal_due l log block same first due = let step : unless_due Seal (due_of log) ≡ None = ap (unless_due Seal) due in grind (arith, nat_tests)

pub gate_due : (l : Layout) (log : Standing) → l.cells ≡ log.cells → due_of log ≡ Gate → step_refusal Gate l log ≡ None
gate_due l log same due = let step : unless_due Gate (due_of log) ≡ None = ap (unless_due Gate) due in grind (arith, nat_tests)
