use Rattle.std.proofs.Common.{ℕ, ◌+◌, Result, refl, ap, subst, ◌∙◌, arith}
use Rattle.rep_disk.specs.declared.disk.DiskFault.{DiskFault}
use Rattle.rep_layout.specs.declared.place.Layout.{Layout}
use Rattle.rep_layout.specs.declared.place.Place.TheVariants.{Log}
use Rattle.rep_layout.specs.Places.{gate_of}
use Rattle.rep_cells.specs.Device.{disk_of, layout_of}
use Rattle.rep_cells.specs.States.{closing}
use Rattle.rep_cells.specs.Calls.{gate}
use Rattle.rep_recover.specs.Going.{Goes}
use Rattle.rep_recover.specs.Formatting.{WillClose}
use Rattle.rep_recover.proofs.Going.{goes_by, goes_nowhere, goes_on, goes_wrong}
use Rattle.rep_recover.proofs.Formatting.{cell_closed}
use Rattle.rep_recover.proofs.format.close_log.Goals as goal
use Rattle.rep_recover.proofs.format.close_log.Goals.{After-close_gate}

pub loop-cell-init : goal.loop-cell-init
loop-cell-init g c = record {
  layout = refl;
  lap = ap (λ (k : Layout). k.cells) c.layout-layout.ensures;
  goes = goes_nowhere g.D.Disk (layout_of c.args.cells.now) (WillClose 0) (disk_of c.args.cells.now);
}

-- the cells so far and the one at hand are closed, where that succeeds
abbrev Closes : (g : _) (c : After-close_gate g) → Result (Unit {0}) DiskFault → Type 0
Closes g c result = Goes g.D.Disk (layout_of c.args.cells.now) (WillClose 0) (WillClose (c.loop-cell.cell + 1)) (disk_of c.args.cells.now) (disk_of c.close_gate.new.self) result

closes : (g : _) (c : After-close_gate g) → Closes g c c.close_gate.result
closes g c =
    let inv = c.loop-cell.invariant in
    let l : Layout = layout_of c.args.cells.now in
    let m : Layout = layout_of c.loop-cell.cells in
    let e = c.close_gate.ensures in
    let n : ℕ = c.loop-cell.cell in
    let one = goes_by g.D.Disk m (WillClose n) (WillClose (n + 1)) (Log n) closing (gate_of m (Log n)) (gate 0) (disk_of c.loop-cell.cells) (disk_of c.close_gate.new.self) _ e.call e.written
    (omega (arith, c.loop-cell-test.true, inv.lap, ap (λ (k : Layout). k.cells) inv.layout)) e.states (cell_closed c.syncs_narrow.ensures n) in
    goes_on g.D.Disk l (WillClose 0) (WillClose n) (WillClose (n + 1)) m (disk_of c.args.cells.now) (disk_of c.loop-cell.cells) (disk_of c.close_gate.new.self) _ _ inv.layout inv.goes one

pub loop-cell-preserved : goal.loop-cell-preserved
loop-cell-preserved g c =
    let at = (goal.at.loop-cell-preserved g c).After-close_gate in
    record {
      layout = c.in_ok-close_gate.ensures.layout ∙ c.loop-cell.invariant.layout;
      lap = c.loop-cell.invariant.lap;
      goes = subst (Closes g at) c.in_ok-close_gate.was (closes g at);
    }

pub returns-in_err-close_gate-clause-goes : goal.returns-in_err-close_gate-clause-goes
returns-in_err-close_gate-clause-goes g c =
    let at = (goal.at.returns-in_err-close_gate-clause-goes g c).After-close_gate in
    let l : Layout = layout_of c.args.cells.now in
    goes_wrong g.D.Disk l (WillClose 0) (WillClose (c.loop-cell.cell + 1)) (WillClose l.cells) (disk_of c.args.cells.now) (disk_of c.close_gate.new.self) _ c.from_residual.result refl c.from_residual.ensures.0
    (subst (Closes g at) c.in_err-close_gate.was (closes g at))
