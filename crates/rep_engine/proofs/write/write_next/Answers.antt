use Rattle.rep_engine.proofs.Due.{recycle_due, seal_due, gate_due}
use Rattle.std.proofs.lemmas.Grind.{common_steps}
use Rattle.std.proofs.Common.{arith}
use Rattle.rep_engine.proofs.write.write_next.Goals as goal

pub step_due-requires : goal.step_due-requires
step_due-requires g c = search

pub returns-in-Recycle-clause-call : goal.returns-in-Recycle-clause-call
returns-in-Recycle-clause-call g c = search

pub returns-in-Recycle-clause-layout : goal.returns-in-Recycle-clause-layout
returns-in-Recycle-clause-layout g c = search

pub returns-in-Seal-clause-call : goal.returns-in-Seal-clause-call
returns-in-Seal-clause-call g c = search

pub returns-in-Seal-clause-layout : goal.returns-in-Seal-clause-layout
returns-in-Seal-clause-layout g c = search

pub returns-in-Gate-clause-call : goal.returns-in-Gate-clause-call
returns-in-Gate-clause-call g c = search

pub returns-in-Gate-clause-layout : goal.returns-in-Gate-clause-layout
returns-in-Gate-clause-layout g c = search

pub returns-in-Sync-clause-layout : goal.returns-in-Sync-clause-layout
returns-in-Sync-clause-layout g c = search

pub returns-in-Recycle-clause-inside : goal.returns-in-Recycle-clause-inside
returns-in-Recycle-clause-inside g c = grind (arith, common_steps, recycle_due, seal_due, gate_due)

pub returns-in-Recycle-clause-written : goal.returns-in-Recycle-clause-written
returns-in-Recycle-clause-written g c = grind (arith, common_steps, recycle_due, seal_due, gate_due)

pub returns-in-Seal-clause-inside : goal.returns-in-Seal-clause-inside
returns-in-Seal-clause-inside g c = grind (arith, common_steps, recycle_due, seal_due, gate_due)

pub returns-in-Seal-clause-written : goal.returns-in-Seal-clause-written
returns-in-Seal-clause-written g c = grind (arith, common_steps, recycle_due, seal_due, gate_due)

pub returns-in-Gate-clause-inside : goal.returns-in-Gate-clause-inside
returns-in-Gate-clause-inside g c = grind (arith, common_steps, recycle_due, seal_due, gate_due)

pub returns-in-Gate-clause-written : goal.returns-in-Gate-clause-written
returns-in-Gate-clause-written g c = grind (arith, common_steps, recycle_due, seal_due, gate_due)

pub returns-in-Sync-clause-call : goal.returns-in-Sync-clause-call
returns-in-Sync-clause-call g c = grind (arith, common_steps, recycle_due, seal_due, gate_due)

pub returns-in-Sync-clause-inside : goal.returns-in-Sync-clause-inside
returns-in-Sync-clause-inside g c = grind (arith, common_steps, recycle_due, seal_due, gate_due)

pub returns-in-Sync-clause-written : goal.returns-in-Sync-clause-written
returns-in-Sync-clause-written g c = grind (arith, common_steps, recycle_due, seal_due, gate_due)
