use Rattle.std.proofs.Common.{refl, ap, ◌∙◌}
use Rattle.rep_layout.specs.declared.place.Layout.{Layout}
use Rattle.rep_layout.specs.Places.{gate_of, log_of}
use Rattle.rep_cells.specs.Device.{disk_of, layout_of}
use Rattle.rep_cells.specs.States.{closing}
use Rattle.rep_cells.specs.Calls.{gate}
use Rattle.rep_log.specs.declared.phase.Phase.TheVariants.{Closing}
use Rattle.rep_log.specs.Standing.{Standing}
use Rattle.rep_log.proofs.Steps.{recycle_is_due, step_at}
use Rattle.rep_log.proofs.ring.Log.recycle.Goals as goal

pub returns-clause-step : goal.returns-clause-step
returns-clause-step g c = λ due.
    let l = layout_of c.args.cells.now in
    let log = c.args.self.now in
    step_at c.turns_are_taken.ensures g.D.Disk l log _ Closing (λ sealed. sealed) c.log_of.result (gate_of l) (gate 0) (disk_of c.args.cells.now) (disk_of c.close_gate.new.self) closing c.close_gate.result c.refusal_of.result
    refl (recycle_is_due l log due) c.refusal_of.ensures.only (c.log_of.ensures ∙ (ap (λ (k : Layout). log_of k c.self.inside.next) c.layout-layout.ensures ∙ ap (λ (v : Standing). log_of l v.next) c.self.view_is)) (ap (λ (v : Standing). record v { phase = Closing }) c.self.view_is) c.refusal_of.ensures.fault c.close_gate.ensures.written c.close_gate.ensures.inside c.close_gate.ensures.states
