use Rattle.std.proofs.Common.{◌∙◌, ℕ, Option, Result, sym, ap, subst}
use Rattle.rep_types.specs.declared.refusal.Refusal.{Refusal}
use Rattle.rep_checkpoint.specs.Standing.{due_in}
use Rattle.rep_engine.specs.Engines.{Engine}
use Rattle.rep_engine.specs.Checking.{checked}
use Rattle.rep_engine.proofs.Refusing.{passed_on}
use Rattle.rep_engine.proofs.Checking.{HasWindow, IsStepped, begins_off, begins_checked, next_checked, stopped_stepped, under_way}
use Rattle.rep_engine.proofs.engine.Engine.check.Goals as goal

pub returns-in_err-running-in-Begin : goal.returns-in_err-running-in-Begin
returns-in_err-running-in-Begin g c =
    let window = HasWindow g.D.Disk c.args.certifier.now.current c.args.self.now in
    let k = subst (λ (r : Result (Option ℕ) Refusal). IsStepped g.D.Disk window c.args.self.now c.args.self.now r (checked r)) (sym (passed_on c.from_residual.result c.in_err-running-in-Begin.field-0.0 c.from_residual.ensures.1 c.in_err-running-in-Begin.ensures.stopped.0))
    (stopped_stepped g.D.Disk window c.args.self.now c.in_err-running-in-Begin.ensures.stopped.1) in
    record { call = k.call; rest = k.rest; params = k.params; unchanged = k.unchanged; fault = k.fault; moves = k.moves; steps = k.steps; leaves = k.leaves }

pub returns-in_ok-running-in-Begin : goal.returns-in_ok-running-in-Begin
returns-in_ok-running-in-Begin g c =
    let k = begins_checked g.D.Disk c.args.certifier.now.current c.checkpoints_go_on.ensures.nodes c.checkpoints_go_on.ensures.states c.judging_goes_on.ensures c.args.self.now c.begin.new.self c.in_ok-running-in-Begin.ensures.runs
    (begins_off c.self.view_is c.in-Begin.ensures) c.begin.ensures.rest c.begin.result c.begin.ensures.begins in
    record { call = k.call; rest = k.rest; params = k.params; unchanged = k.unchanged; fault = k.fault; moves = k.moves; steps = k.steps; leaves = k.leaves }

pub returns-in-Flush : goal.returns-in-Flush
returns-in-Flush g c =
    let under = under_way c.step_due.result c.args.self.now.checkpoint.stage (c.step_due.ensures ∙ ap (λ (e : Engine g.row.D.Denot). due_in e.checkpoint.stage) c.self.view_is) c.in-Flush.is in
    let e = c.check_next.ensures in
    let k = subst (λ (r : Result (Option ℕ) Refusal). IsStepped g.D.Disk (HasWindow g.D.Disk c.args.certifier.now.current c.args.self.now) c.args.self.now c.check_next.new.self r (checked r)) (sym c.and.ensures)
    (next_checked g.D.Disk c.args.certifier.now.current c.check_next.result (record {
      call = e.call;
      rest = e.rest;
      params = e.params;
      unchanged = e.unchanged;
      fault = e.fault;
      moves = e.moves under;
      steps = λ n holds known. e.steps under n holds;
      leaves = e.leaves;
    })) in
    record { call = k.call; rest = k.rest; params = k.params; unchanged = k.unchanged; fault = k.fault; moves = k.moves; steps = k.steps; leaves = k.leaves }
