use Rattle.std.proofs.Common.{◌≡◌, ◌⊎◌, ℕ, Some, IfErr, refl, sym, subst, arith, inr, ap, ◌∙◌}
use Rattle.rep_types.specs.declared.refusal.Refusal.TheVariants.{DiskFault, Corrupt, NotDue, Stopped}
use Rattle.rep_types.specs.declared.refusal.Part.TheVariants.{Pages}
use Rattle.rep_layout.specs.declared.place.Place.TheVariants.{Page}
use Rattle.rep_steps.specs.declared.event.Event.TheVariants.{Flush as to_flush}
use Rattle.rep_steps.specs.Moves.{Moves}
use Rattle.rep_steps.specs.Nodes.{Steps}
use Rattle.rep_steps.specs.Standings.{flush_refusal, Standing}
use Rattle.rep_checkpoint.specs.Standing.{stage_of}
use Rattle.rep_checkpoint.specs.Moves.{position_in}
use Rattle.rep_checkpoint.specs.Calls.{FlushesAsSpelled}
use Rattle.rep_engine.specs.Engines.{Engine, facts_of}
use Rattle.rep_engine.specs.Holding.{Holds, wrote}
use Rattle.rep_engine.proofs.Refusing.{passed_on}
use Rattle.rep_engine.proofs.Flushing.{IsFlushed, flush_moves, flush_holds, flush_leaves, flush_left, flush_stops, flush_spelled, refused_spelled, far_steps}
use Rattle.rep_engine.proofs.Asking.{none_asked}
use Rattle.rep_engine.proofs.Steps.{stopped_moves, stopped_steps}
use Rattle.rep_disk.specs.Leaving.{leaves_none}
use Rattle.rep_engine.proofs.engine.Engine.flush.Goals as goal
use Rattle.rep_engine.proofs.engine.Engine.flush.Goals.{After-flush_page}

flushed_out : (g : _) (c : After-flush_page g) → IsFlushed g.D.Disk c.args.self.now c.flush_page.new.self.disk c.flush_page.new.self.checkpoint c.flush_page.new.self.halted c.in-Ok.page c.flush_page.result
flushed_out g c = record {
  engine = c.running.ensures.engine;
  runs = c.in_ok-running.ensures.runs;
  call = c.flush_page.ensures.call;
  halted = c.flush_page.ensures.halted;
  refused = c.flush_page.ensures.refused;
  flushes = c.flush_page.ensures.flushes;
  unchanged = c.flush_page.ensures.unchanged;
}

pub returns-in-Ok-clause-moves : goal.returns-in-Ok-clause-moves
returns-in-Ok-clause-moves g c =
    subst (λ (e : Engine g.row.D.Denot). Moves (facts_of g.D.Disk c.args.self.now) (to_flush c.args.page) (wrote c.flush_page.result) (facts_of g.D.Disk e)) (sym c.flush_page.ensures.rest)
    (subst (λ (page : ℕ). Moves (facts_of g.D.Disk c.args.self.now) (to_flush page) (wrote c.flush_page.result) (facts_of g.D.Disk (record c.args.self.now { disk = c.flush_page.new.self.disk; checkpoint = c.flush_page.new.self.checkpoint; halted = c.flush_page.new.self.halted }))) c.in-Ok.ensures.1
    (flush_moves g.D.Disk g.met.D.Disk.sized c.checkpoints_go_on.ensures.facts c.args.self.now c.flush_page.new.self.disk c.flush_page.new.self.checkpoint c.flush_page.new.self.halted c.in-Ok.page c.flush_page.result (flushed_out g c)))

pub returns-in-Ok-clause-steps : goal.returns-in-Ok-clause-steps
returns-in-Ok-clause-steps g c = λ n holds.
    let came = flush_holds g.D.Disk g.met.D.Disk.sized c.checkpoints_go_on.ensures.facts c.args.self.now c.flush_page.new.self.disk c.flush_page.new.self.checkpoint c.flush_page.new.self.halted c.in-Ok.page c.flush_page.result (flushed_out g c) c.checkpoints_go_on.ensures.nodes c.checkpoints_go_on.ensures.fronts c.checkpoints_go_on.ensures.apart c.checkpoints_go_on.ensures.states n holds (flush_refusal (stage_of c.args.self.now.checkpoint) c.in-Ok.page) refl in
    (came.0, subst (λ (page : ℕ). Steps n (to_flush page) (wrote c.flush_page.result) came.0) c.in-Ok.ensures.1 came.1, subst (λ (e : Engine g.row.D.Denot). Holds g.D.Disk came.0 e) (sym c.flush_page.ensures.rest) came.2)

pub returns-in-Ok-clause-leaves : goal.returns-in-Ok-clause-leaves
returns-in-Ok-clause-leaves g c = λ n holds. flush_leaves g.D.Disk g.met.D.Disk.sized c.checkpoints_go_on.ensures.facts c.args.self.now c.flush_page.new.self.disk c.flush_page.new.self.checkpoint c.flush_page.new.self.halted c.in-Ok.page c.flush_page.result (flushed_out g c) n holds c.checkpoints_go_on.ensures.nodes c.checkpoints_go_on.ensures.fronts c.checkpoints_go_on.ensures.apart c.checkpoints_go_on.ensures.states

pub returns-in-Err-clause-steps : goal.returns-in-Err-clause-steps
returns-in-Err-clause-steps g c = λ n holds.
    let old : Engine g.row.D.Denot = c.args.self.now in
    let runs = c.in_ok-running.ensures.runs in
    (n, far_steps g.D.Disk c.row_places_are_told.ensures old c.args.page n holds runs c.running.ensures.engine.checkpoint (omega (arith, c.in-Err.ensures)), holds)

-- ---- what a refusal leaves, and what the bytes say

pub returns-in-Ok-clause-unchanged : goal.returns-in-Ok-clause-unchanged
returns-in-Ok-clause-unchanged g c =
    subst (λ (x : Engine g.row.D.Denot). IfErr c.flush_page.result (λ e. (e ≡ DiskFault) ⊎ (((e ≡ Corrupt Pages) × (x ≡ record c.args.self.now { disk = c.flush_page.new.self.disk })) ⊎ (x ≡ c.args.self.now)))) (sym c.flush_page.ensures.rest)
    (flush_left g.D.Disk g.met.D.Disk.sized c.checkpoints_go_on.ensures.facts c.args.self.now c.flush_page.new.self.disk c.flush_page.new.self.checkpoint c.flush_page.new.self.halted c.in-Ok.page c.flush_page.result (flushed_out g c))

pub returns-in-Ok-clause-fault : goal.returns-in-Ok-clause-fault
returns-in-Ok-clause-fault g c =
    subst (λ (x : Engine g.row.D.Denot). IfErr c.flush_page.result (λ e. e ≡ DiskFault → x ≡ record c.args.self.now { disk = c.flush_page.new.self.disk; halted = Some c.args.self.now.log.phase })) (sym c.flush_page.ensures.rest)
    (flush_stops g.D.Disk g.met.D.Disk.sized c.checkpoints_go_on.ensures.facts c.args.self.now c.flush_page.new.self.disk c.flush_page.new.self.checkpoint c.flush_page.new.self.halted c.in-Ok.page c.flush_page.result (flushed_out g c))

pub returns-in-Ok-clause-spelled : goal.returns-in-Ok-clause-spelled
returns-in-Ok-clause-spelled g c =
    let old : Engine g.row.D.Denot = c.args.self.now in
    subst (λ (page : ℕ). g.D.Disk.honest old.disk → FlushesAsSpelled old.layout old.checkpoint.base old.kept (position_in old.checkpoint.stage) page (g.D.Disk.history old.disk) (g.D.Disk.history c.flush_page.new.self.disk) c.flush_page.result) c.in-Ok.ensures.1
    (λ honest. flush_spelled g.D.Disk g.met.D.Disk.sized c.checkpoints_go_on.ensures.facts c.args.self.now c.flush_page.new.self.disk c.flush_page.new.self.checkpoint c.flush_page.new.self.halted c.in-Ok.page c.flush_page.result (flushed_out g c) honest (λ slot there. c.in_ok-running.ensures.readable honest (Page c.in-Ok.page slot)))

pub returns-in-Err-clause-spelled : goal.returns-in-Err-clause-spelled
returns-in-Err-clause-spelled g c = λ honest. refused_spelled _ _ _ _ _ _ _ NotDue (λ e. absurd cc)

-- ---- where the device has failed before

pub returns-in_err-running : goal.returns-in_err-running
returns-in_err-running g c =
    rw (passed_on c.from_residual.result c.in_err-running.field-0.0 c.from_residual.ensures.1 c.in_err-running.ensures.stopped.0) (record {
      call = none_asked g.D.Disk c.args.self.now.disk;
      rest = refl;
      moves = stopped_moves (facts_of g.D.Disk c.args.self.now) (to_flush c.args.page) c.in_err-running.ensures.stopped.1;
      steps = λ n holds. (n, stopped_steps n (to_flush c.args.page) (ap (λ (s : Standing). s.stopped) holds.facts ∙ c.in_err-running.ensures.stopped.1), holds);
      leaves = λ n holds. leaves_none _ _ refl;
      spelled = λ honest. refused_spelled _ _ _ _ _ _ _ Stopped (λ e. absurd cc);
      unchanged = inr (inr refl);
      fault = λ e. absurd cc;
    })
