use Rattle.std.proofs.Common.{◌≡◌, ℕ, List, length, None, refl, ap, subst, ◌∙◌}
use Rattle.rep_types.specs.declared.judged.Judged.{Judged}
use Rattle.rep_disk.specs.History.{History}
use Rattle.rep_layout.specs.declared.place.Layout.{Layout}
use Rattle.rep_cells.specs.Device.{disk_of, layout_of}
use Rattle.rep_cells.specs.States.{States}
use Rattle.rep_cells.specs.Known.{Assigns}
use Rattle.rep_log.specs.declared.phase.Phase.TheVariants.{Filled, Opening}
use Rattle.rep_log.specs.Standing.{Standing, LogIs}
use Rattle.rep_log.specs.Moves.{seal_refusal}
use Rattle.rep_disk.specs.Leaving.{leaves_none}
use Rattle.uses_log.proofs.Appending.{Stage, Went, StepsAt, SettlesAt, went_on, body_settled, gate_opened, block_appended, gate_is_due, ends, stops}
use Rattle.uses_log.proofs.log.append.Goals as goal
use Rattle.uses_log.proofs.log.append.Goals.{After-seal, After-settle, After-gate}

-- what the call that writes the body comes to
sealed_goes :
    (g : _) (c : After-seal g) (s : States) (first : ℕ) (blocks : List (List Judged)) (sealed : List Judged) → g.D.Disk.honest (disk_of c.args.cells.now) → seal_refusal (layout_of c.args.cells.now) c.args.log.now c.args.block.now ≡ None
    → Assigns (layout_of c.args.cells.now) (g.D.Disk.history (disk_of c.args.cells.now)) s → LogIs (layout_of c.args.cells.now) c.args.log.now first blocks sealed s
    → Went (layout_of c.args.cells.now) (g.D.Disk.history (disk_of c.args.cells.now)) (g.D.Disk.history (disk_of c.seal.new.cells)) c.args.log.now.start first blocks c.args.block.now
    (Stage (layout_of c.args.cells.now) (g.D.Disk.history (disk_of c.args.cells.now)) (g.D.Disk.history (disk_of c.seal.new.cells)) c.args.log.now.start c.seal.new.self first blocks c.args.block.now) c.seal.result
sealed_goes g c s first blocks sealed honest due assigns is =
    let old : History = g.D.Disk.history (disk_of c.args.cells.now) in
    let step = c.seal.ensures.step due in
    went_on c.the_log_in_every_image.ensures (layout_of c.args.cells.now) old old (g.D.Disk.history (disk_of c.seal.new.cells)) c.args.log.now.start c.seal.new.self first blocks c.args.block.now s c.seal.result (leaves_none old old refl)
    (ap (λ (v : Standing). v.start) step.stands) (step.steps honest s first blocks sealed assigns is)

-- the sync behind it
settled_goes :
    (g : _) (c : After-settle g) (first : ℕ) (blocks : List (List Judged)) → g.D.Disk.honest (disk_of c.args.cells.now) → seal_refusal (layout_of c.args.cells.now) c.args.log.now c.args.block.now ≡ None
    → Stage (layout_of c.args.cells.now) (g.D.Disk.history (disk_of c.args.cells.now)) (g.D.Disk.history (disk_of c.seal.new.cells)) c.args.log.now.start c.seal.new.self first blocks c.args.block.now
    → Went (layout_of c.args.cells.now) (g.D.Disk.history (disk_of c.args.cells.now)) (g.D.Disk.history (disk_of c.settle.new.cells)) c.args.log.now.start first blocks c.args.block.now
    ((c.settle.new.log ≡ record c.args.log.now { phase = Filled (length c.args.block.now) })
    × Stage (layout_of c.args.cells.now) (g.D.Disk.history (disk_of c.args.cells.now)) (g.D.Disk.history (disk_of c.settle.new.cells)) c.args.log.now.start c.settle.new.log first blocks c.args.block.now) c.settle.result
settled_goes g c first blocks honest due stage =
    let log = c.args.log.now in
    let h : History = g.D.Disk.history (disk_of c.seal.new.cells) in
    let new : History = g.D.Disk.history (disk_of c.settle.new.cells) in
    let settles = subst (λ (k : Layout). SettlesAt k h new c.seal.new.self c.settle.new.log c.settle.result) c.seal.ensures.layout (c.settle.ensures.settled (c.seal.ensures.call.stays_honest honest)) in
    body_settled c.the_log_in_every_image.ensures (layout_of c.args.cells.now) (g.D.Disk.history (disk_of c.args.cells.now)) h new log.start (length c.args.block.now) log c.seal.new.self c.settle.new.log first blocks c.args.block.now c.settle.result
    (c.seal.ensures.step due).stands c.settle.ensures.after refl stage settles

-- the gate behind that
opened_goes :
    (g : _) (c : After-gate g) (first : ℕ) (blocks : List (List Judged)) → g.D.Disk.honest (disk_of c.args.cells.now) → (layout_of c.args.cells.now).cells ≡ c.args.log.now.cells
    → (c.settle.new.log ≡ record c.args.log.now { phase = Filled (length c.args.block.now) })
    × Stage (layout_of c.args.cells.now) (g.D.Disk.history (disk_of c.args.cells.now)) (g.D.Disk.history (disk_of c.settle.new.cells)) c.args.log.now.start c.settle.new.log first blocks c.args.block.now
    → Went (layout_of c.args.cells.now) (g.D.Disk.history (disk_of c.args.cells.now)) (g.D.Disk.history (disk_of c.gate.new.cells)) c.args.log.now.start first blocks c.args.block.now
    ((c.gate.new.self.phase ≡ Opening (length c.args.block.now))
    × Stage (layout_of c.args.cells.now) (g.D.Disk.history (disk_of c.args.cells.now)) (g.D.Disk.history (disk_of c.gate.new.cells)) c.args.log.now.start c.gate.new.self first blocks c.args.block.now) c.gate.result
opened_goes g c first blocks honest cells filled =
    let log = c.args.log.now in
    let l : Layout = layout_of c.args.cells.now in
    let n : ℕ = length c.args.block.now in
    let h : History = g.D.Disk.history (disk_of c.settle.new.cells) in
    let new : History = g.D.Disk.history (disk_of c.gate.new.cells) in
    let same = c.settle.ensures.layout ∙ c.seal.ensures.layout in
    let opens = c.gate.ensures.step (gate_is_due l (layout_of c.settle.new.cells) n log c.settle.new.log same cells filled.0) in
    let steps = subst (λ (k : Layout). StepsAt k h new c.settle.new.log c.gate.new.self c.gate.result) same (opens.steps (c.settle.ensures.honest (c.seal.ensures.call.stays_honest honest))) in
    gate_opened c.the_log_in_every_image.ensures l (g.D.Disk.history (disk_of c.args.cells.now)) h new log.start n log c.settle.new.log c.gate.new.self first blocks c.args.block.now c.gate.result filled.0 opens.stands refl filled.1 steps

pub returns-in_err-seal : goal.returns-in_err-seal
returns-in_err-seal g c = record {
  appended = λ honest due s first blocks sealed assigns is.
      let one = sealed_goes g (goal.at.returns-in_err-seal g c).After-seal s first blocks sealed honest due assigns is in
      stops c.seal.new.self c.from_residual.result one c.from_residual.ensures.0;
}

pub returns-in_err-settle : goal.returns-in_err-settle
returns-in_err-settle g c = record {
  appended = λ honest due s first blocks sealed assigns is.
      let at = goal.at.returns-in_err-settle g c in
      let one = ends (sealed_goes g at.After-seal s first blocks sealed honest due assigns is) c.in_ok-seal.was in
      stops c.settle.new.log c.from_residual-in_err-settle.result (settled_goes g at.After-settle first blocks honest due one) c.from_residual-in_err-settle.ensures.0;
}

pub returns-in_err-gate : goal.returns-in_err-gate
returns-in_err-gate g c = record {
  appended = λ honest due s first blocks sealed assigns is.
      let at = goal.at.returns-in_err-gate g c in
      let one = ends (sealed_goes g at.After-seal s first blocks sealed honest due assigns is) c.in_ok-seal.was in
      let two = ends (settled_goes g at.After-settle first blocks honest due one) c.in_ok-settle.was in
      stops c.gate.new.self c.from_residual-in_err-gate.result (opened_goes g at.After-gate first blocks honest is.cells two) c.from_residual-in_err-gate.ensures.0;
}

pub returns : goal.returns
returns g c = record {
  appended = λ honest due s first blocks sealed assigns is.
      let at = goal.at.returns g c in
      let l : Layout = layout_of c.args.cells.now in
      let h : History = g.D.Disk.history (disk_of c.gate.new.cells) in
      let new : History = g.D.Disk.history (disk_of c.settle-2.new.cells) in
      let one = ends (sealed_goes g at.After-seal s first blocks sealed honest due assigns is) c.in_ok-seal.was in
      let two = ends (settled_goes g at.After-settle first blocks honest due one) c.in_ok-settle.was in
      let three = ends (opened_goes g at.After-gate first blocks honest is.cells two) c.in_ok-gate.was in
      let same = c.gate.ensures.layout ∙ c.settle.ensures.layout ∙ c.seal.ensures.layout in
      let still = c.gate.ensures.call.stays_honest (c.settle.ensures.honest (c.seal.ensures.call.stays_honest honest)) in
      let last = subst (λ (k : Layout). SettlesAt k h new c.gate.new.self c.settle-2.new.log c.settle-2.result) same (c.settle-2.ensures.settled still) in
      block_appended c.the_log_in_every_image.ensures l (g.D.Disk.history (disk_of c.args.cells.now)) h new c.args.log.now.start (length c.args.block.now) c.gate.new.self c.settle-2.new.log first blocks c.args.block.now c.settle-2.result
      three.0 three.1 last;
}
