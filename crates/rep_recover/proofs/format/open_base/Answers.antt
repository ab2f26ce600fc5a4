use Rattle.std.proofs.Common.{ℕ, refl, arith}
use Rattle.rep_layout.specs.declared.place.Layout.{Layout}
use Rattle.rep_layout.specs.declared.place.Side.TheVariants.{A}
use Rattle.rep_layout.specs.declared.place.Place.TheVariants.{Super}
use Rattle.rep_layout.specs.Places.{gate_of}
use Rattle.rep_cells.specs.Device.{disk_of, layout_of}
use Rattle.rep_cells.specs.States.{Filled, Opening, Opened, Stable, opening}
use Rattle.rep_cells.specs.Calls.{gate}
use Rattle.rep_recover.specs.Formatting.{HasFirst}
use Rattle.rep_recover.proofs.Going.{goes_by, goes_synced, goes_on, goes_wrong}
use Rattle.rep_recover.proofs.Formatting.{first_synced, gate_opened}
use Rattle.rep_recover.proofs.format.open_base.Goals as goal

pub returns-in_err-open_gate-clause-goes : goal.returns-in_err-open_gate-clause-goes
returns-in_err-open_gate-clause-goes g c = λ body window.
    let l : Layout = layout_of c.args.cells.now in
    let n : ℕ = l.cells in
    let e = c.in_err-open_gate.ensures in
    let one = goes_by g.D.Disk l (HasFirst n (Filled body) (Stable window)) (HasFirst n (Opening body) (Stable window)) (Super A) opening (gate_of l (Super A)) (gate 0xA5) (disk_of c.args.cells.now) (disk_of c.open_gate.new.self) _ e.call e.written (omega arith) e.states
    (gate_opened n (Filled body) (Stable window)) in
    goes_wrong g.D.Disk l (HasFirst n (Filled body) (Stable window)) (HasFirst n (Opening body) (Stable window)) (HasFirst n (Opened body) (Stable window)) (disk_of c.args.cells.now) (disk_of c.open_gate.new.self) _ c.from_residual.result refl c.from_residual.ensures.0 one

pub returns-clause-goes : goal.returns-clause-goes
returns-clause-goes g c = λ body window.
    let l : Layout = layout_of c.args.cells.now in
    let m : Layout = layout_of c.open_gate.new.self in
    let n : ℕ = l.cells in
    let e = c.in_ok-open_gate.ensures in
    let f = c.sync.ensures in
    let one = goes_by g.D.Disk l (HasFirst n (Filled body) (Stable window)) (HasFirst n (Opening body) (Stable window)) (Super A) opening (gate_of l (Super A)) (gate 0xA5) (disk_of c.args.cells.now) (disk_of c.open_gate.new.self) _ e.call e.written (omega arith) e.states
    (gate_opened n (Filled body) (Stable window)) in
    let two = goes_synced g.D.Disk m (HasFirst n (Opening body) (Stable window)) (HasFirst n (Opened body) (Stable window)) (disk_of c.open_gate.new.self) (disk_of c.sync.new.self) c.sync.result f.call f.synced f.unsynced f.states (first_synced n (Opening body) (Stable window)) in
    goes_on g.D.Disk l (HasFirst n (Filled body) (Stable window)) (HasFirst n (Opening body) (Stable window)) (HasFirst n (Opened body) (Stable window)) m (disk_of c.args.cells.now) (disk_of c.open_gate.new.self) (disk_of c.sync.new.self) _ c.sync.result e.layout one two
