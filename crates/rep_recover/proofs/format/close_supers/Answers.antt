use Rattle.std.proofs.Common.{refl, arith}
use Rattle.rep_layout.specs.declared.place.Layout.{Layout}
use Rattle.rep_layout.specs.declared.place.Side.TheVariants.{A, B}
use Rattle.rep_layout.specs.declared.place.Place.TheVariants.{Super}
use Rattle.rep_layout.specs.Places.{gate_of}
use Rattle.rep_cells.specs.Device.{disk_of, layout_of}
use Rattle.rep_cells.specs.States.{closing}
use Rattle.rep_cells.specs.Calls.{gate}
use Rattle.rep_recover.specs.Formatting.{WillClose}
use Rattle.rep_recover.proofs.Going.{goes_by, goes_on, goes_wrong}
use Rattle.rep_recover.proofs.Formatting.{FirstWillClose, first_closed, second_closed}
use Rattle.rep_recover.proofs.format.close_supers.Goals as goal

pub returns-in_err-close_gate-clause-goes : goal.returns-in_err-close_gate-clause-goes
returns-in_err-close_gate-clause-goes g c =
    let l : Layout = layout_of c.args.cells.now in
    let e = c.in_err-close_gate.ensures in
    let one = goes_by g.D.Disk l (λ _. Unit {0}) FirstWillClose (Super A) closing (gate_of l (Super A)) (gate 0) (disk_of c.args.cells.now) (disk_of c.close_gate.new.self) _ e.call e.written (omega arith) e.states (first_closed c.syncs_narrow.ensures) in
    goes_wrong g.D.Disk l (λ _. Unit {0}) FirstWillClose (WillClose 0) (disk_of c.args.cells.now) (disk_of c.close_gate.new.self) _ c.from_residual.result refl c.from_residual.ensures.0 one

pub returns-clause-goes : goal.returns-clause-goes
returns-clause-goes g c =
    let l : Layout = layout_of c.args.cells.now in
    let m : Layout = layout_of c.close_gate.new.self in
    let e = c.in_ok-close_gate.ensures in
    let f = c.close_gate-2.ensures in
    let one = goes_by g.D.Disk l (λ _. Unit {0}) FirstWillClose (Super A) closing (gate_of l (Super A)) (gate 0) (disk_of c.args.cells.now) (disk_of c.close_gate.new.self) _ e.call e.written (omega arith) e.states (first_closed c.syncs_narrow.ensures) in
    let two = goes_by g.D.Disk m FirstWillClose (WillClose 0) (Super B) closing (gate_of m (Super B)) (gate 0) (disk_of c.close_gate.new.self) (disk_of c.close_gate-2.new.self) c.close_gate-2.result f.call f.written (omega arith) f.states (second_closed c.syncs_narrow.ensures) in
    goes_on g.D.Disk l (λ _. Unit {0}) FirstWillClose (WillClose 0) m (disk_of c.args.cells.now) (disk_of c.close_gate.new.self) (disk_of c.close_gate-2.new.self) _ c.close_gate-2.result e.layout one two
