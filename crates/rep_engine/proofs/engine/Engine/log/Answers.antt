use Rattle.std.proofs.Common.{◌≡◌, Option, None, Some, refl, sym, ap, subst, ◌∙◌, inr, rules}
use Rattle.rep_log.specs.declared.phase.Phase.{Phase}
use Rattle.rep_layout.specs.declared.place.Layout.{Layout}
use Rattle.rep_cells.specs.Device.{disk_of, layout_of}
use Rattle.rep_steps.specs.declared.event.Event.TheVariants.{Log as to_log}
use Rattle.rep_steps.specs.Standings.{log_refusal, Standing}
use Rattle.rep_engine.specs.Engines.{Engine, IsEngine, facts_of}
use Rattle.rep_engine.specs.Reading.{halted_by}
use Rattle.rep_engine.proofs.Pools.{pooled_as, pooled_beside}
use Rattle.rep_engine.proofs.Steps.{refused_log, stopped_moves, stopped_steps}
use Rattle.rep_engine.proofs.Answering.{inside, runs_within}
use Rattle.rep_engine.proofs.Logs.{IsLogged, Logged, it_logged, engine_then}
use Rattle.rep_engine.proofs.Refusing.{passed_on, not_failed, done_or_failed}
use Rattle.rep_engine.proofs.Asking.{none_asked}
use Rattle.rep_disk.specs.Leaving.{leaves_none}
use Rattle.rep_engine.proofs.engine.Engine.log.Goals as goal
use Rattle.rep_engine.proofs.engine.Engine.log.Goals.{After-write_next-written}

pub returns-in-Some-clause-steps : goal.returns-in-Some-clause-steps
returns-in-Some-clause-steps g c = λ n holds.
    let old : Engine g.row.D.Denot = c.args.self.now in
    let runs : old.halted ≡ None = c.in_ok-running.ensures.runs in
    let some : log_refusal (facts_of g.D.Disk old) old.log.phase ≡ Some c.in-Some.refusal = sym c.log_refusal.ensures ∙ c.in-Some.is in
    (n, refused_log g.D.Disk old n holds runs c.in-Some.refusal some, holds)

-- ---- what a write did, whether the device failed or not

abbrev within : (g : _) (c : After-write_next-written g) → Engine g.row.D.Denot
within g c = inside c.self.inside.cells c.self.inside.checkpoint c.self.inside.log c.self.inside.versions c.self.inside.block c.self.inside.halted

abbrev after : (g : _) (c : After-write_next-written g) → Option Phase → Engine g.row.D.Denot
after g c halted = inside c.write_next-written.new.cells c.self.inside.checkpoint c.write_next-written.new.log c.self.inside.versions c.self.inside.block halted

written : (g : _) (c : After-write_next-written g) (halted : Option Phase) → halted ≡ halted_by c.phase-before.result c.write_next-written.result → IsLogged g.D.Disk (within g c) (after g c halted) c.write_next-written.result
written g c halted is = record {
  engine = c.self.invariant.0;
  runs = runs_within c.self.view_is c.in_ok-running.ensures.runs;
  none = subst (λ (e : Engine g.row.D.Denot). log_refusal (facts_of g.D.Disk e) e.log.phase ≡ None) (sym c.self.view_is) (sym c.log_refusal.ensures ∙ c.in_default.is);
  call = c.write_next-written.ensures.call;
  writes = c.write_next-written.ensures.written;
  layout = c.write_next-written.ensures.layout;
  same_checkpoint = refl;
  same_kept = refl;
  same_block = refl;
  halted = is ∙ ap (λ (p : Phase). halted_by p c.write_next-written.result) c.phase-before.ensures;
}

pub invariant_of-self : goal.invariant_of-self
invariant_of-self g c =
    let at = (goal.at.invariant_of-self g c).After-write_next-written in (
      subst (λ (l : Layout). IsEngine l c.self.inside.checkpoint c.write_next-written.new.log c.self.inside.versions c.self.inside.block) (sym c.write_next-written.ensures.layout)
          (engine_then g.D.Disk _ _ c.write_next-written.result (written g at c.halted_by-self-inside.result c.halted_by-self-inside.ensures)),
      c.self.invariant.1,
      λ on. pooled_as g.D.Disk (layout_of c.self.inside.cells) (layout_of c.write_next-written.new.cells) c.self.inside.checkpoint.base c.self.inside.checkpoint.base (disk_of c.write_next-written.new.cells) c.self.inside.pool c.write_next-written.ensures.layout refl
          (pooled_beside c.pools_go_on.ensures g.D.Disk c.self.inside.checkpoint.base.params.rows (layout_of c.self.inside.cells) _ (disk_of c.self.inside.cells) (disk_of c.write_next-written.new.cells) c.self.inside.pool c.write_next-written.result (λ number slot e. absurd cc)
          c.write_next-written.ensures.call.was_honest c.write_next-written.ensures.inside
          (done_or_failed c.write_next-written.result c.write_next-written.ensures.written.fault (not_failed c.phase-before.result c.write_next-written.result (sym c.halted_by-self-inside.ensures ∙ on))) (c.self.invariant.2 (runs_within c.self.view_is c.in_ok-running.ensures.runs))),
    )

pub returns : goal.returns
returns g c =
    let at = (goal.at.returns g c).After-write_next-written in
    let k = subst (λ (e : Engine g.row.D.Denot). Logged g.D.Disk e (after g at c.halted_by-self-inside.result) c.write_next-written.result) c.self.view_is
    (it_logged g.D.Disk (within g at) (after g at c.halted_by-self-inside.result) g.met.D.Disk.sized c.nodes_stay_nodes.ensures c.nodes_leave_their_fronts.ensures c.the_log_is_apart.ensures
    (ap (λ (l : Layout). record (after g at c.halted_by-self-inside.result) { layout = l }) c.write_next-written.ensures.layout)
    c.write_next-written.result (written g at c.halted_by-self-inside.result c.halted_by-self-inside.ensures)) in
    record { call = k.call; moves = k.moves; steps = k.steps; rest = k.rest; unchanged = k.unchanged; fault = k.fault; memory = k.memory; log = k.log; leaves = k.leaves }

-- ---- where the device has failed before

pub returns-in_err-running : goal.returns-in_err-running
returns-in_err-running g c =
    rw (passed_on c.from_residual.result c.in_err-running.field-0.0 c.from_residual.ensures.1 c.in_err-running.ensures.stopped.0) (record {
      call = none_asked g.D.Disk c.args.self.now.disk;
      moves = stopped_moves (facts_of g.D.Disk c.args.self.now) to_log c.in_err-running.ensures.stopped.1;
      steps = λ n holds. (n, stopped_steps n to_log (ap (λ (s : Standing). s.stopped) holds.facts ∙ c.in_err-running.ensures.stopped.1), holds);
      rest = refl;
      unchanged = inr refl;
      fault = λ e. absurd cc;
      memory = λ e. absurd cc;
      log = tt;
      leaves = λ n holds. leaves_none _ _ refl;
    })

pub nodes_stay_nodes-requires : goal.nodes_stay_nodes-requires
nodes_stay_nodes-requires g c = search

pub nodes_leave_their_fronts-requires : goal.nodes_leave_their_fronts-requires
nodes_leave_their_fronts-requires g c = search

pub the_log_is_apart-requires : goal.the_log_is_apart-requires
the_log_is_apart-requires g c = search

pub pools_go_on-requires : goal.pools_go_on-requires
pools_go_on-requires g c = search

pub returns-in-Some-clause-rest : goal.returns-in-Some-clause-rest
returns-in-Some-clause-rest g c = search

pub returns-in-Some-clause-log : goal.returns-in-Some-clause-log
returns-in-Some-clause-log g c = search

pub phase-before-requires : goal.phase-before-requires
phase-before-requires g c = search

pub write_next-written-requires-clause-cells : goal.write_next-written-requires-clause-cells
write_next-written-requires-clause-cells g c = search

pub log_refusal-requires : goal.log_refusal-requires
log_refusal-requires g c = search rules

pub returns-in-Some-clause-call : goal.returns-in-Some-clause-call
returns-in-Some-clause-call g c = search rules

pub returns-in-Some-clause-moves : goal.returns-in-Some-clause-moves
returns-in-Some-clause-moves g c = search rules

pub returns-in-Some-clause-unchanged : goal.returns-in-Some-clause-unchanged
returns-in-Some-clause-unchanged g c = search rules

pub returns-in-Some-clause-fault : goal.returns-in-Some-clause-fault
returns-in-Some-clause-fault g c = search rules

pub returns-in-Some-clause-memory : goal.returns-in-Some-clause-memory
returns-in-Some-clause-memory g c = search rules

pub returns-in-Some-clause-leaves : goal.returns-in-Some-clause-leaves
returns-in-Some-clause-leaves g c = search rules

pub write_next-written-requires-clause-block : goal.write_next-written-requires-clause-block
write_next-written-requires-clause-block g c = search rules

pub write_next-written-requires-clause-due : goal.write_next-written-requires-clause-due
write_next-written-requires-clause-due g c = search rules
