use Rattle.std.proofs.Common.{ap, subst, ◌∙◌}
use Rattle.std.proofs.lemmas.Result.{on_ok_weaker}
use Rattle.rep_disk.specs.History.{History}
use Rattle.rep_layout.specs.declared.place.Layout.{Layout}
use Rattle.rep_cells.specs.States.{synced}
use Rattle.rep_cells.specs.Known.{Assigns}
use Rattle.rep_cells.specs.Calls.{Settled}
use Rattle.uses_log.proofs.cells.clear.Goals as goal

pub returns-clause-cleared : goal.returns-clause-cleared
returns-clause-cleared g c = λ honest s is.
    let l = c.args.cells.now.layout in
    let h1 : History = g.D.Disk.history c.close_gate.new.self.disk in
    let h2 : History = g.D.Disk.history c.sync.new.self.disk in
    let shut = c.in_ok-close_gate.ensures.states honest s is in
    let settled : Settled l h1 h2 shut.after c.sync.result =
    subst (λ (k : Layout). Assigns k h1 shut.after → Settled k h1 h2 shut.after c.sync.result) c.close_gate.ensures.layout
    (c.sync.ensures.states (c.close_gate.ensures.call.stays_honest honest) shut.after) shut.reaches.ok in
    on_ok_weaker c.sync.result (λ assigns. record {
      states = settled.after;
      assigns = assigns;
      there = settled.syncs c.args.stale ∙ (ap synced shut.moves.there ∙ c.syncs_narrow.ensures.closes (s c.args.stale));
      elsewhere = λ q other. settled.syncs q ∙ ap synced (shut.moves.elsewhere q other);
    }) settled.reaches.ok
