use Rattle.std.proofs.Common.{◌≡◌, true, false, refl, sym, ap, subst, ◌∙◌}
use Rattle.std.specs.Prelude.{is_some}
use Rattle.rep_types.proofs.Choices.{or_both}
use Rattle.rep_steps.specs.declared.event.Event.TheVariants.{Read}
use Rattle.rep_recover.specs.Engines.{Engine}
use Rattle.rep_recover.specs.Holding.{row}
use Rattle.rep_replica.specs.Replicas.{Replica}
use Rattle.rep_replica.specs.Holding.{IsStep}
use Rattle.rep_disk.specs.Leaving.{leaves_none}
use Rattle.rep_replica.proofs.Refusing.{left_by_row, asked_left, read_spells, stopped_read}
use Rattle.rep_replica.proofs.Stepping.{as_step, read_step, stopped_step}
use Rattle.rep_replica.proofs.replica.Replica.read.Goals as goal

abbrev old : (g : _) (c : goal.After-read g) → Replica g.row.D.Denot
old g c = record { engine = c.self.inside.engine; backlog = c.self.inside.backlog; certifier = c.self.inside.certifier; stopped = c.self.inside.stopped }

abbrev new : (g : _) (c : goal.After-read g) → Replica g.row.D.Denot
new g c = record { engine = c.read.new.self; backlog = c.self.inside.backlog; certifier = c.self.inside.certifier; stopped = c.self.inside.stopped }

pub returns-clause-step : goal.returns-clause-step
returns-clause-step g c =
    let e = c.self.inside.engine in
    let goes = sym c.is_stopped.ensures ∙ c.if-is_stopped.false in
    let running : c.self.inside.stopped ≡ false = ap (λ (r : Replica g.row.D.Denot). r.stopped) c.self.view_is ∙ (or_both c.args.self.now.stopped (is_some c.args.self.now.engine.halted) goes).0 in
    let params = ap (λ (x : Engine g.row.D.Denot). x.checkpoint.base.params) c.read.ensures.rest in
    let block = ap (λ (x : Engine g.row.D.Denot). x.block) c.read.ensures.rest in
    let step = read_step g.D.Disk c.nodes_stay_nodes.ensures c.judging_goes_on.ensures c.parts_step_as_the_whole.ensures (old g c) (new g c) (row c.read.result) params refl refl refl running c.args.key c.args.s block
    (record {
      moves = c.read.ensures.moves;
      steps = c.read.ensures.steps;
      leaves = λ n holds. leaves_none (g.D.Disk.history e.disk) (g.D.Disk.history c.read.new.self.disk) (c.read.ensures.same holds.is_honest);
    }) in
    subst (λ (r : Replica g.row.D.Denot). IsStep g.D.Disk r (Read c.args.key c.args.s) (row c.read.result) (new g c)) c.self.view_is
    (as_step g.D.Disk (old g c) (Read c.args.key c.args.s) (row c.read.result) (new g c) step (c.read.ensures.call.stays_honest, c.read.ensures.call.was_honest)
    (left_by_row (Read c.args.key c.args.s) (old g c) (new g c) c.read.result
    (asked_left (Read c.args.key c.args.s) (old g c) c.read.new.self (λ fault. fault) c.read.result c.read.ensures.unchanged c.read.ensures.fault))
    (read_spells g.D.Disk c.args.key c.args.s (old g c) (new g c) c.read.result c.read.ensures.spelled))

pub returns-then-is_stopped-clause-step : goal.returns-then-is_stopped-clause-step
returns-then-is_stopped-clause-step g c =
    stopped_step g.D.Disk c.args.self.now (Read c.args.key c.args.s) (sym c.is_stopped.ensures ∙ c.if-is_stopped.true)

pub returns-then-is_stopped-clause-spelled : goal.returns-then-is_stopped-clause-spelled
returns-then-is_stopped-clause-spelled g c = stopped_read g.D.Disk c.args.self.now c.args.key c.args.s
