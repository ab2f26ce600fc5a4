use Rattle.std.proofs.Common.{Result, sym, subst}
use Rattle.rep_types.specs.declared.refusal.Refusal.{Refusal}
use Rattle.rep_engine.specs.Engines.{Engine}
use Rattle.rep_node.proofs.Stepping.{Goes, goes_logged, goes_synced, goes_working, goes_full}
use Rattle.rep_node.proofs.keeping.write_or_sync.Goals as goal
use Rattle.rep_node.proofs.keeping.write_or_sync.Given.{Over}
use Rattle.rep_node.proofs.keeping.write_or_sync.Goals.{Joined-log_step, in-Sync, in-Recycle}

-- what the step leaves, whichever it was
goes : (g : Over) (c : Joined-log_step g) → Goes g.D.Disk c.args.engine.now c.match-log_step.engine c.match-log_step.done
goes g c = elim c.match-log_step.branch [
  | in-Sync w ↦ subst (λ (z : Engine g.row.D.Denot × Result (Unit {0}) Refusal). Goes g.D.Disk c.args.engine.now z.0 z.1) (λ i. (sym w.engine-is i, sym w.done-is i))
      (goes_synced g.D.Disk c.taken_items_stay.ensures c.args.engine.now w.sync.new.self w.sync.result w.map-done.result _ w.map-done.ensures.variant w.map-done.ensures.cases c.durable-durable.ensures.engine w.sync.ensures.moves w.sync.ensures.steps w.sync.ensures.unchanged)
  | in-Recycle w ↦ subst (λ (z : Engine g.row.D.Denot × Result (Unit {0}) Refusal). Goes g.D.Disk c.args.engine.now z.0 z.1) (λ i. (sym w.engine-is i, sym w.done-is i))
      (goes_logged g.D.Disk c.taken_items_stay.ensures c.args.engine.now w.log-done.new.self w.log-done.result c.durable-durable.ensures.engine w.log-done.ensures.moves w.log-done.ensures.steps w.log-done.ensures.unchanged)
]

pub returns-in-Err-NotDue-clause-taken : goal.returns-in-Err-NotDue-clause-taken
returns-in-Err-NotDue-clause-taken g c = (goes g (goal.at.returns-in-Err-NotDue-clause-taken g c).Joined-log_step).taken

pub returns-in_default : goal.returns-in_default
returns-in_default g c = let h = goes g (goal.at.returns-in_default g c).Joined-log_step in record {
  taken = h.taken;
  rises = h.rises;
  base = h.base;
  works = goes_working g.D.Disk c.args.engine.now c.match-log_step.engine c.match-log_step.done h;
  full = goes_full g.D.Disk c.args.engine.now c.match-log_step.engine c.match-log_step.done h;
}

pub returns-in_default-2-clause-taken : goal.returns-in_default-2-clause-taken
returns-in_default-2-clause-taken g c = (goes g (goal.at.returns-in_default-2-clause-taken g c).Joined-log_step).taken

pub returns-in-Err-NotDue-clause-base : goal.returns-in-Err-NotDue-clause-base
returns-in-Err-NotDue-clause-base g c = (goes g (goal.at.returns-in-Err-NotDue-clause-base g c).Joined-log_step).base

pub returns-in_default-2-clause-base : goal.returns-in_default-2-clause-base
returns-in_default-2-clause-base g c = (goes g (goal.at.returns-in_default-2-clause-base g c).Joined-log_step).base
