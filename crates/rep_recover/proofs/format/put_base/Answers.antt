use Rattle.std.proofs.Common.{ℕ, List, Result, refl, subst, ◌∙◌, arith}
use Rattle.rep_disk.specs.declared.disk.DiskFault.{DiskFault}
use Rattle.rep_layout.specs.declared.place.Layout.{Layout}
use Rattle.rep_layout.specs.declared.place.Side.TheVariants.{A}
use Rattle.rep_layout.specs.declared.place.Place.TheVariants.{Super, Window}
use Rattle.rep_layout.specs.Places.{offset_of}
use Rattle.rep_cells.specs.Device.{disk_of, layout_of}
use Rattle.rep_cells.specs.States.{Filling, Filled, Pending, Stable, filling, writing}
use Rattle.rep_recover.specs.Going.{Goes}
use Rattle.rep_recover.specs.Formatting.{AreClosed, HasFirst}
use Rattle.rep_recover.proofs.Going.{goes_by, goes_synced, goes_on, goes_wrong}
use Rattle.rep_recover.proofs.Formatting.{HasSuper, super_filled, window_written, first_synced}
use Rattle.rep_recover.proofs.format.put_base.Goals as goal
use Rattle.rep_recover.proofs.format.put_base.Goals.{After-write_area}

pub returns-in_err-fill-clause-goes : goal.returns-in_err-fill-clause-goes
returns-in_err-fill-clause-goes g c =
    let l : Layout = layout_of c.args.cells.now in
    let n : ℕ = l.cells in
    let body : List ℕ = c.args.superblock.now in
    let e = c.in_err-fill.ensures in
    let one = goes_by g.D.Disk l (AreClosed n) (HasSuper n (Filling body)) (Super A) (filling body) (offset_of l (Super A)) body (disk_of c.args.cells.now) (disk_of c.fill.new.self) _ e.call e.written (omega (arith, c.requires.superblock)) e.states (super_filled n body) in
    goes_wrong g.D.Disk l (AreClosed n) (HasSuper n (Filling body)) (HasFirst n (Filled body) (Stable c.args.window.now)) (disk_of c.args.cells.now) (disk_of c.fill.new.self) _ c.from_residual.result refl c.from_residual.ensures.0 one

-- the superblock's body and the window are written, where that succeeds
abbrev Writes : (g : _) (c : After-write_area g) → Result (Unit {0}) DiskFault → Type 0
Writes g c result =
    Goes g.D.Disk (layout_of c.args.cells.now) (AreClosed (layout_of c.args.cells.now).cells) (HasFirst (layout_of c.args.cells.now).cells (Filling c.args.superblock.now) (Pending c.args.window.now))
    (disk_of c.args.cells.now) (disk_of c.write_area.new.self) result

writes : (g : _) (c : After-write_area g) → Writes g c c.write_area.result
writes g c =
    let l : Layout = layout_of c.args.cells.now in
    let m : Layout = layout_of c.fill.new.self in
    let n : ℕ = l.cells in
    let body : List ℕ = c.args.superblock.now in
    let window : List ℕ = c.args.window.now in
    let e = c.in_ok-fill.ensures in
    let f = c.write_area.ensures in
    let one = goes_by g.D.Disk l (AreClosed n) (HasSuper n (Filling body)) (Super A) (filling body) (offset_of l (Super A)) body (disk_of c.args.cells.now) (disk_of c.fill.new.self) _ e.call e.written (omega (arith, c.requires.superblock)) e.states (super_filled n body) in
    let two = goes_by g.D.Disk m (HasSuper n (Filling body)) (HasFirst n (Filling body) (Pending window)) (Window A) (writing window) (offset_of m (Window A)) window (disk_of c.fill.new.self) (disk_of c.write_area.new.self) _ f.call f.written (omega (arith, c.requires.window)) f.states (window_written n (Filling body) window) in
    goes_on g.D.Disk l (AreClosed n) (HasSuper n (Filling body)) (HasFirst n (Filling body) (Pending window)) m (disk_of c.args.cells.now) (disk_of c.fill.new.self) (disk_of c.write_area.new.self) _ _ e.layout one two

pub returns-in_err-write_area-clause-goes : goal.returns-in_err-write_area-clause-goes
returns-in_err-write_area-clause-goes g c =
    let at = (goal.at.returns-in_err-write_area-clause-goes g c).After-write_area in
    let n : ℕ = (layout_of c.args.cells.now).cells in
    goes_wrong g.D.Disk (layout_of c.args.cells.now) (AreClosed n) (HasFirst n (Filling c.args.superblock.now) (Pending c.args.window.now)) (HasFirst n (Filled c.args.superblock.now) (Stable c.args.window.now))
    (disk_of c.args.cells.now) (disk_of c.write_area.new.self) _ c.from_residual-in_err-write_area.result refl c.from_residual-in_err-write_area.ensures.0 (subst (Writes g at) c.in_err-write_area.was (writes g at))

pub returns-clause-goes : goal.returns-clause-goes
returns-clause-goes g c =
    let at = (goal.at.returns-clause-goes g c).After-write_area in
    let k : Layout = layout_of c.write_area.new.self in
    let n : ℕ = (layout_of c.args.cells.now).cells in
    let written = HasFirst n (Filling c.args.superblock.now) (Pending c.args.window.now) in
    let stable = HasFirst n (Filled c.args.superblock.now) (Stable c.args.window.now) in
    let s = c.sync.ensures in
    let three = goes_synced g.D.Disk k written stable (disk_of c.write_area.new.self) (disk_of c.sync.new.self) c.sync.result s.call s.synced s.unsynced s.states (first_synced n (Filling c.args.superblock.now) (Pending c.args.window.now)) in
    goes_on g.D.Disk (layout_of c.args.cells.now) (AreClosed n) written stable k (disk_of c.args.cells.now) (disk_of c.write_area.new.self) (disk_of c.sync.new.self) _ c.sync.result (c.in_ok-write_area.ensures.layout ∙ c.in_ok-fill.ensures.layout)
    (subst (Writes g at) c.in_ok-write_area.was (writes g at)) three
