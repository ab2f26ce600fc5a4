use Rattle.std.proofs.Common.{◌≡◌, refl, sym, ap, ◌∙◌}
use Rattle.rep_layout.specs.declared.place.Layout.{Layout}
use Rattle.rep_layout.specs.Places.{gate_of, log_of}
use Rattle.rep_cells.specs.Device.{disk_of, layout_of}
use Rattle.rep_cells.specs.States.{opening}
use Rattle.rep_cells.specs.Calls.{gate}
use Rattle.rep_log.specs.declared.phase.Phase.TheVariants.{Filled, Opening}
use Rattle.rep_log.specs.Standing.{Standing}
use Rattle.rep_log.specs.Moves.{gated_in}
use Rattle.rep_log.proofs.Steps.{gate_is_due, step_at, step_to}
use Rattle.rep_log.proofs.ring.Log.gate.Goals as goal

pub returns-clause-step : goal.returns-clause-step
returns-clause-step g c = λ due.
    let l = layout_of c.args.cells.now in
    let log = c.args.self.now in
    let n = c.in-Filled.count in
    let old = disk_of c.args.cells.now in
    let new = disk_of c.open_gate.new.self in
    let filled : log.phase ≡ Filled n = sym (ap (λ (v : Standing). v.phase) c.self.view_is) ∙ c.in-Filled.is in
    let place : c.log_of.result ≡ log_of l log.next = c.log_of.ensures ∙ (ap (λ (k : Layout). log_of k c.self.inside.next) c.layout-layout.ensures ∙ ap (λ (v : Standing). log_of l v.next) c.self.view_is) in
    step_to (sym (ap (gated_in log) filled))
    (step_at c.turns_are_taken.ensures g.D.Disk l log _ (Opening n) (λ sealed. sealed) c.log_of.result (gate_of l) (gate 0xA5) old new opening c.open_gate.result c.refusal_of.result
    refl (gate_is_due l log n filled) c.refusal_of.ensures.only place (ap (λ (v : Standing). record v { phase = Opening n }) c.self.view_is) c.refusal_of.ensures.fault c.open_gate.ensures.written c.open_gate.ensures.inside c.open_gate.ensures.states)
