use Rattle.std.proofs.Common.{◌≢◌, ◌∙◌, Option, Result, Err, sym, ap, subst}
use Rattle.std.specs.Prelude.{if◌then◌else◌, is_some}
use Rattle.rep_types.specs.declared.refusal.Refusal.{Refusal}
use Rattle.rep_types.specs.declared.refusal.Refusal.TheVariants.{NotDue, Stopped}
use Rattle.rep_log.specs.declared.phase.Phase.{Phase}
use Rattle.rep_checkpoint.specs.declared.stage.Step.TheVariants.{Next}
use Rattle.rep_checkpoint.specs.Standing.{due_in}
use Rattle.rep_engine.specs.Engines.{Engine}
use Rattle.rep_engine.specs.Holding.{wrote}
use Rattle.rep_engine.proofs.Refusing.{passed_on}
use Rattle.rep_engine.proofs.Checking.{IsStepped, goes_stepped, other_due, stopped_stepped, waits_moves, waits_steps}
use Rattle.rep_engine.proofs.engine.Engine.check_next.Given.{Over}
use Rattle.rep_engine.proofs.engine.Engine.check_next.Goals as goal
use Rattle.rep_engine.proofs.engine.Engine.check_next.Goals.{In-Begin}

pub returns-in_err-running : goal.returns-in_err-running
returns-in_err-running g c =
    let was = passed_on c.from_residual.result c.in_err-running.field-0.0 c.from_residual.ensures.1 c.in_err-running.ensures.stopped.0 in
    let k = subst (λ (r : Result (Unit {0}) Refusal). IsStepped g.D.Disk (λ n. Unit {0}) c.args.self.now c.args.self.now r (wrote r)) (sym was)
    (stopped_stepped g.D.Disk (λ n. Unit {0}) c.args.self.now c.in_err-running.ensures.stopped.1) in
    record {
      call = k.call;
      rest = k.rest;
      params = k.params;
      unchanged = k.unchanged;
      fault = k.fault;
      none = λ off. was ∙ ap (λ b. Err (if b then Stopped else NotDue)) (sym c.in_err-running.ensures.stopped.1);
      moves = λ under. k.moves;
      steps = λ under n holds. k.steps n holds tt;
      leaves = k.leaves;
    }

pub returns-in-Next : goal.returns-in-Next
returns-in-Next g c =
    let went = goes_stepped g.D.Disk c.checkpoints_go_on.ensures.nodes c.checkpoints_go_on.ensures.fronts c.checkpoints_go_on.ensures.apart c.checkpoints_go_on.ensures.facts g.met.D.Disk.sized c.self.view_is c.self.invariant.0
    c.in_ok-running.ensures.runs c.in-Next.ensures c.go_on.result c.go_on.ensures in
    let k = went.1 in
    record {
      call = k.call;
      rest = k.rest;
      params = k.params;
      unchanged = k.unchanged;
      fault = k.fault;
      none = λ off. absurd (went.0 off);
      moves = λ under. k.moves;
      steps = λ under n holds. k.steps n holds tt;
      leaves = k.leaves;
    }

-- another step is due
waits : (g : Over) (c : In-Begin g) → due_in c.args.self.now.checkpoint.stage ≢ Next
waits g c = other_due c.step_due.result c.args.self.now.checkpoint.stage (c.step_due.ensures ∙ ap (λ (e : Engine g.row.D.Denot). due_in e.checkpoint.stage) c.self.view_is) c.in-Begin.is

pub returns-in-Begin-clause-none : goal.returns-in-Begin-clause-none
returns-in-Begin-clause-none g c = λ off. ap (λ (o : Option Phase). Err (if is_some o then Stopped else NotDue)) (sym c.in_ok-running.ensures.runs)

pub returns-in-Begin-clause-moves : goal.returns-in-Begin-clause-moves
returns-in-Begin-clause-moves g c = waits_moves g.D.Disk c.checkpoints_go_on.ensures.facts c.args.self.now c.in_ok-running.ensures.runs (waits g (goal.at.returns-in-Begin-clause-moves g c).In-Begin)

pub returns-in-Begin-clause-steps : goal.returns-in-Begin-clause-steps
returns-in-Begin-clause-steps g c = waits_steps g.D.Disk c.checkpoints_go_on.ensures.facts c.args.self.now c.in_ok-running.ensures.runs (waits g (goal.at.returns-in-Begin-clause-steps g c).In-Begin)
