use Rattle.std.proofs.Common.{◌≡◌, Some, Ok, Err, refl, sym, ap, subst, ◌∙◌, inr, rules}
use Rattle.rep_disk.specs.Moments.{LeavesOnly}
use Rattle.rep_cells.specs.Calls.{Settles}
use Rattle.rep_types.specs.declared.refusal.Refusal.TheVariants.{DiskFault}
use Rattle.rep_checkpoint.specs.Standing.{Standing as Checkpoint}
use Rattle.rep_versions.specs.Versions.{Kept}
use Rattle.rep_cells.specs.Device.{disk_of, layout_of}
use Rattle.rep_layout.specs.declared.place.Layout.{Layout}
use Rattle.rep_log.specs.Moves.{after_sync, started}
use Rattle.rep_checkpoint.specs.Moves.{after_sync as checkpoint_after, is_opening}
use Rattle.rep_checkpoint.specs.Calls.{SyncsTo}
use Rattle.rep_engine.specs.Writing.{PrunesIf}
use Rattle.rep_steps.specs.declared.event.Event.TheVariants.{Sync as to_sync}
use Rattle.rep_steps.specs.declared.answer.Answer.TheVariants.{Synced}
use Rattle.rep_steps.specs.Moves.{Moves}
use Rattle.rep_steps.specs.Images.{IsFrontAt}
use Rattle.rep_checkpoint.specs.Meanings.{Means}
use Rattle.rep_engine.specs.Engines.{Engine, IsEngine, facts_of}
use Rattle.rep_engine.specs.Holding.{Holds}
use Rattle.rep_engine.proofs.Pools.{pooled_as, pooled_synced}
use Rattle.rep_engine.proofs.Answering.{inside, runs_within}
use Rattle.rep_engine.proofs.Syncs.{IsSynced, GoesOn, synced_moves, sync_leaves, sync_halts, sync_holds}
use Rattle.rep_engine.proofs.Refusing.{passed_on}
use Rattle.rep_engine.proofs.Asking.{none_asked}
use Rattle.rep_engine.proofs.Steps.{stopped_moves, stopped_steps}
use Rattle.rep_steps.specs.Standings.{Standing}
use Rattle.rep_disk.specs.Leaving.{leaves_none}
use Rattle.rep_disk.specs.Devices.{Calls}
use Rattle.rep_engine.proofs.engine.Engine.sync.Goals as goal

-- ---- where the device failed

failed : (g : _) (c : goal.After-self-1 g) → IsSynced g.D.Disk
    (inside c.self.inside.cells c.self.inside.checkpoint c.self.inside.log c.self.inside.versions c.self.inside.block c.self.inside.halted)
    (inside c.sync.new.self c.self.inside.checkpoint c.self.inside.log c.self.inside.versions c.self.inside.block (Some c.phase.result)) (Err DiskFault) c.sync.result
failed g c = record {
  engine = c.self.invariant.0;
  runs = runs_within c.self.view_is c.in_ok-running.ensures.runs;
  call = c.sync.ensures.call;
  settles = c.sync.ensures.states;
  layout = c.sync.ensures.layout;
}

pub returns-then-is_err-clause-steps : goal.returns-then-is_err-clause-steps
returns-then-is_err-clause-steps g c = λ n holds.
    sync_halts g.D.Disk g.met.D.Disk.sized c.the_stage_is_the_facts.ensures _ _ (Err DiskFault) c.sync.result (failed g c) n
    (subst (λ (e : Engine g.row.D.Denot). Holds g.D.Disk n e) (sym c.self.view_is) holds)
    c.nodes_stay_nodes.ensures (c.sync.ensures.call.cause (sym c.if-is_err.ensures.value)) (record { halted = ap Some c.phase.ensures; checkpoint = refl; log = refl; block = refl })

pub returns-then-is_err-clause-leaves : goal.returns-then-is_err-clause-leaves
returns-then-is_err-clause-leaves g c = λ n holds.
    subst (λ (e : Engine g.row.D.Denot). LeavesOnly (g.D.Disk.history e.disk) (g.D.Disk.history (disk_of c.sync.new.self)) (IsFrontAt Means n)) c.self.view_is
    (sync_leaves g.D.Disk g.met.D.Disk.sized c.the_stage_is_the_facts.ensures _ _ (Err DiskFault) c.sync.result (failed g c) n
    (subst (λ (e : Engine g.row.D.Denot). Holds g.D.Disk n e) (sym c.self.view_is) holds))

-- ---- where it was done

pub invariant_of-self-else-is_err : goal.invariant_of-self-else-is_err
invariant_of-self-else-is_err g c = (
  subst (λ (l : Layout). IsEngine l c.self.inside.checkpoint c.self.inside.log c.self.inside.versions c.self.inside.block) (sym c.sync.ensures.layout) c.self.invariant.0,
  c.self.invariant.1,
  λ runs. pooled_as g.D.Disk (layout_of c.self.inside.cells) (layout_of c.sync.new.self) c.self.inside.checkpoint.base c.self.inside.checkpoint.base (disk_of c.sync.new.self) c.self.inside.pool c.sync.ensures.layout refl
      (pooled_synced c.pools_go_on.ensures g.D.Disk c.self.inside.checkpoint.base.params.rows (layout_of c.self.inside.cells) (disk_of c.self.inside.cells) (disk_of c.sync.new.self) c.self.inside.pool c.sync.result
      c.sync.ensures.call.was_honest c.sync.ensures.synced c.if-is_err.ensures.negation (c.self.invariant.2 runs)),
)

done : (g : _) (c : goal.After-raise g) → IsSynced g.D.Disk
    (inside c.self.inside.cells c.self.inside.checkpoint c.self.inside.log c.self.inside.versions c.self.inside.block c.self.inside.halted) c.raise.new.self (Ok c.settle-replies.result) c.sync.result
done g c =
    let settled = c.settle-replies.ensures.after in
    let is = c.raise.ensures.after in
    let disk = ap (λ (e : Engine g.row.D.Denot). e.disk) is ∙ ap (λ (e : Engine g.row.D.Denot). e.disk) settled in record {
      engine = c.self.invariant.0;
      runs = runs_within c.self.view_is c.in_ok-running.ensures.runs;
      call = subst (λ d. Calls g.D.Disk (disk_of c.self.inside.cells) d c.sync.result) (sym disk) c.sync.ensures.call;
      settles = subst (λ d. Settles g.D.Disk (layout_of c.self.inside.cells) (disk_of c.self.inside.cells) d c.sync.result) (sym disk) c.sync.ensures.states;
      layout = ap (λ (e : Engine g.row.D.Denot). e.layout) is ∙ ap (λ (e : Engine g.row.D.Denot). e.layout) settled ∙ c.sync.ensures.layout;
    }

on : (g : _) (c : goal.After-raise g)
    → GoesOn (inside c.self.inside.cells c.self.inside.checkpoint c.self.inside.log c.self.inside.versions c.self.inside.block c.self.inside.halted) c.raise.new.self c.settle-replies.result
on g c =
    let settled = c.settle-replies.ensures.after in
    let is = c.raise.ensures.after in
    let mid = c.settle-replies.new.self in
    let before : mid.checkpoint ≡ c.self.inside.checkpoint = ap (λ (e : Engine g.row.D.Denot). e.checkpoint) settled in
    let checkpoint : c.raise.new.self.checkpoint ≡ checkpoint_after mid.checkpoint = ap (λ (e : Engine g.row.D.Denot). e.checkpoint) is in record {
      runs = ap (λ (e : Engine g.row.D.Denot). e.halted) is ∙ ap (λ (e : Engine g.row.D.Denot). e.halted) settled ∙ runs_within c.self.view_is c.in_ok-running.ensures.runs;
      synced = mid.log;
      synced_is = ap (λ (e : Engine g.row.D.Denot). e.log) settled;
      syncs = c.settle-replies.ensures.log;
      checkpoint = checkpoint ∙ ap checkpoint_after before;
      states = subst (λ (k : Checkpoint). SyncsTo k c.raise.new.self.checkpoint) before c.raise.ensures.states;
      uuid = c.raise.ensures.uuid ∙ ap (λ (k : Checkpoint). k.base.uuid) before;
      params = c.raise.ensures.params ∙ ap (λ (k : Checkpoint). k.base.params) before;
      log = ap (λ (e : Engine g.row.D.Denot). e.log) is ∙ ap (λ (k : Checkpoint). started k.base.start mid.log) (sym checkpoint);
      later = c.raise.ensures.later;
      kept =
          subst (λ (kept : Kept). PrunesIf (is_opening c.self.inside.checkpoint.stage) c.raise.new.self.checkpoint.base.position kept c.raise.new.self.kept) (ap (λ (e : Engine g.row.D.Denot). e.kept) settled)
          (subst (λ (k : Checkpoint). PrunesIf (is_opening k.stage) c.raise.new.self.checkpoint.base.position mid.kept c.raise.new.self.kept) before
          (subst (λ (k : Checkpoint). PrunesIf (is_opening mid.checkpoint.stage) k.base.position mid.kept c.raise.new.self.kept) (sym checkpoint) c.raise.ensures.pruned));
      block = ap (λ (e : Engine g.row.D.Denot). e.block) is ∙ ap (λ (e : Engine g.row.D.Denot). e.block) settled;
      replies = c.settle-replies.ensures.replies;
    }

pub returns-clause-moves : goal.returns-clause-moves
returns-clause-moves g c =
    subst (λ (e : Engine g.row.D.Denot). Moves (facts_of g.D.Disk e) to_sync (Synced c.settle-replies.result) (facts_of g.D.Disk c.raise.new.self)) c.self.view_is
    (synced_moves g.D.Disk g.met.D.Disk.sized c.the_stage_is_the_facts.ensures _ _ (Ok c.settle-replies.result) c.sync.result (done g c) c.the_synced_log_is_the_facts.ensures c.settle-replies.result c.if-is_err.ensures.negation (on g c))

pub returns-clause-steps : goal.returns-clause-steps
returns-clause-steps g c = λ n holds.
    sync_holds g.D.Disk g.met.D.Disk.sized c.the_stage_is_the_facts.ensures _ _ (Ok c.settle-replies.result) c.sync.result (done g c) n
    (subst (λ (e : Engine g.row.D.Denot). Holds g.D.Disk n e) (sym c.self.view_is) holds)
    c.nodes_stay_nodes.ensures c.nodes_leave_their_fronts.ensures c.nodes_settle.ensures c.versions_follow_the_items.ensures c.images_read_as_allowed.ensures c.judging_goes_on.ensures c.the_synced_log_is_the_facts.ensures c.settle-replies.result c.if-is_err.ensures.negation (on g c)

pub returns-clause-leaves : goal.returns-clause-leaves
returns-clause-leaves g c = λ n holds.
    subst (λ (e : Engine g.row.D.Denot). LeavesOnly (g.D.Disk.history e.disk) (g.D.Disk.history c.raise.new.self.disk) (IsFrontAt Means n)) c.self.view_is
    (sync_leaves g.D.Disk g.met.D.Disk.sized c.the_stage_is_the_facts.ensures _ _ (Ok c.settle-replies.result) c.sync.result (done g c) n
    (subst (λ (e : Engine g.row.D.Denot). Holds g.D.Disk n e) (sym c.self.view_is) holds))

pub returns-clause-log : goal.returns-clause-log
returns-clause-log g c =
    let settled = c.settle-replies.ensures.after in
    let is = c.raise.ensures.after in
    let mid = c.settle-replies.new.self in
    let log : mid.log ≡ after_sync c.args.self.now.log = ap (λ (e : Engine g.row.D.Denot). e.log) settled ∙ ap (λ (e : Engine g.row.D.Denot). after_sync e.log) c.self.view_is in
    let checkpoint : c.raise.new.self.checkpoint ≡ checkpoint_after mid.checkpoint = ap (λ (e : Engine g.row.D.Denot). e.checkpoint) is in
    ap (λ (e : Engine g.row.D.Denot). e.log) is ∙ ap (λ (k : Checkpoint). started k.base.start mid.log) (sym checkpoint) ∙ ap (started c.raise.new.self.checkpoint.base.start) log

-- ---- where the device has failed before

pub returns-in_err-running : goal.returns-in_err-running
returns-in_err-running g c =
    rw (passed_on c.from_residual.result c.in_err-running.field-0.0 c.from_residual.ensures.1 c.in_err-running.ensures.stopped.0) (record {
      call = none_asked g.D.Disk c.args.self.now.disk;
      rest = refl;
      params = refl;
      unchanged = inr refl;
      fault = λ e. absurd cc;
      synced = λ honest. tt;
      unsynced = λ honest. refl;
      log = tt;
      moves = stopped_moves (facts_of g.D.Disk c.args.self.now) to_sync c.in_err-running.ensures.stopped.1;
      steps = λ n holds. (n, stopped_steps n to_sync (ap (λ (s : Standing). s.stopped) holds.facts ∙ c.in_err-running.ensures.stopped.1), holds);
      leaves = λ n holds. leaves_none _ _ refl;
    })

pub nodes_stay_nodes-requires : goal.nodes_stay_nodes-requires
nodes_stay_nodes-requires g c = search

pub images_read_as_allowed-requires : goal.images_read_as_allowed-requires
images_read_as_allowed-requires g c = search

pub nodes_leave_their_fronts-requires : goal.nodes_leave_their_fronts-requires
nodes_leave_their_fronts-requires g c = search

pub nodes_settle-requires : goal.nodes_settle-requires
nodes_settle-requires g c = search

pub the_stage_is_the_facts-requires : goal.the_stage_is_the_facts-requires
the_stage_is_the_facts-requires g c = search

pub the_synced_log_is_the_facts-requires : goal.the_synced_log_is_the_facts-requires
the_synced_log_is_the_facts-requires g c = search

pub versions_follow_the_items-requires : goal.versions_follow_the_items-requires
versions_follow_the_items-requires g c = search

pub judging_goes_on-requires : goal.judging_goes_on-requires
judging_goes_on-requires g c = search

pub pools_go_on-requires : goal.pools_go_on-requires
pools_go_on-requires g c = search

pub phase-requires : goal.phase-requires
phase-requires g c = search

pub returns-then-is_err-clause-synced : goal.returns-then-is_err-clause-synced
returns-then-is_err-clause-synced g c = search

pub returns-then-is_err-clause-log : goal.returns-then-is_err-clause-log
returns-then-is_err-clause-log g c = search

pub returns-clause-unchanged : goal.returns-clause-unchanged
returns-clause-unchanged g c = search

pub returns-clause-fault : goal.returns-clause-fault
returns-clause-fault g c = search

pub returns-clause-unsynced : goal.returns-clause-unsynced
returns-clause-unsynced g c = search

pub invariant_of-self : goal.invariant_of-self
invariant_of-self g c = search rules

pub returns-then-is_err-clause-call : goal.returns-then-is_err-clause-call
returns-then-is_err-clause-call g c = search rules

pub returns-then-is_err-clause-rest : goal.returns-then-is_err-clause-rest
returns-then-is_err-clause-rest g c = search rules

pub returns-then-is_err-clause-params : goal.returns-then-is_err-clause-params
returns-then-is_err-clause-params g c = search rules

pub returns-then-is_err-clause-unchanged : goal.returns-then-is_err-clause-unchanged
returns-then-is_err-clause-unchanged g c = search rules

pub returns-then-is_err-clause-fault : goal.returns-then-is_err-clause-fault
returns-then-is_err-clause-fault g c = search rules

pub returns-then-is_err-clause-unsynced : goal.returns-then-is_err-clause-unsynced
returns-then-is_err-clause-unsynced g c = search rules

pub returns-then-is_err-clause-moves : goal.returns-then-is_err-clause-moves
returns-then-is_err-clause-moves g c = search rules

pub returns-clause-call : goal.returns-clause-call
returns-clause-call g c = search rules

pub returns-clause-rest : goal.returns-clause-rest
returns-clause-rest g c = search rules

pub returns-clause-params : goal.returns-clause-params
returns-clause-params g c = search rules

pub returns-clause-synced : goal.returns-clause-synced
returns-clause-synced g c = search rules
