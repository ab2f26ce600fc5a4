use Rattle.std.proofs.Common.{ℕ, List, Ok, refl, sym, subst, ◌∙◌}
use Rattle.rep_layout.specs.declared.place.Layout.{Layout}
use Rattle.rep_cells.specs.Device.{disk_of, layout_of}
use Rattle.rep_cells.specs.States.{Filled, Opened, Stable}
use Rattle.rep_recover.specs.Going.{Goes}
use Rattle.rep_recover.specs.Formatting.{AreClosed, HasFirst}
use Rattle.rep_recover.proofs.Going.{goes_on, goes_wrong}
use Rattle.rep_recover.proofs.format.format_cells.Goals as goal

pub returns-in_err-close_all-clause-goes : goal.returns-in_err-close_all-clause-goes
returns-in_err-close_all-clause-goes g c =
    let l : Layout = layout_of c.args.cells.now in
    goes_wrong g.D.Disk l (λ _. Unit {0}) (AreClosed l.cells) (HasFirst l.cells (Opened c.args.superblock.now) (Stable c.args.window.now)) (disk_of c.args.cells.now) (disk_of c.close_all.new.cells) _ c.from_residual.result refl c.from_residual.ensures.0 c.in_err-close_all.ensures.goes

pub returns-in_err-put_base-clause-goes : goal.returns-in_err-put_base-clause-goes
returns-in_err-put_base-clause-goes g c =
    let l : Layout = layout_of c.args.cells.now in
    let m : Layout = layout_of c.close_all.new.cells in
    let body : List ℕ = c.args.superblock.now in
    let window : List ℕ = c.args.window.now in
    let e = c.in_ok-close_all.ensures in
    let first = subst (λ (x : Layout). Goes g.D.Disk l (λ _. Unit {0}) (AreClosed x.cells) (disk_of c.args.cells.now) (disk_of c.close_all.new.cells) (Ok _)) (sym e.layout) e.goes in
    let all = goes_on g.D.Disk l (λ _. Unit {0}) (AreClosed m.cells) (HasFirst m.cells (Filled body) (Stable window)) m (disk_of c.args.cells.now) (disk_of c.close_all.new.cells) (disk_of c.put_base.new.cells) _ _ e.layout first c.in_err-put_base.ensures.goes in
    goes_wrong g.D.Disk l (λ _. Unit {0}) (HasFirst m.cells (Filled body) (Stable window)) (HasFirst l.cells (Opened body) (Stable window)) (disk_of c.args.cells.now) (disk_of c.put_base.new.cells) _ c.from_residual-in_err-put_base.result refl c.from_residual-in_err-put_base.ensures.0 all

pub returns-clause-goes : goal.returns-clause-goes
returns-clause-goes g c =
    let l : Layout = layout_of c.args.cells.now in
    let m : Layout = layout_of c.close_all.new.cells in
    let k : Layout = layout_of c.put_base.new.cells in
    let body : List ℕ = c.args.superblock.now in
    let window : List ℕ = c.args.window.now in
    let e = c.in_ok-close_all.ensures in
    let f = c.in_ok-put_base.ensures in
    let second = subst (λ (x : Layout). Goes g.D.Disk m (AreClosed x.cells) (HasFirst x.cells (Filled body) (Stable window)) (disk_of c.close_all.new.cells) (disk_of c.put_base.new.cells) (Ok _)) e.layout f.goes in
    let third = subst (λ (x : Layout). Goes g.D.Disk k (HasFirst x.cells (Filled body) (Stable window)) (HasFirst x.cells (Opened body) (Stable window)) (disk_of c.put_base.new.cells) (disk_of c.open_base.new.cells) c.open_base.result) (f.layout ∙ e.layout) (c.open_base.ensures.goes body window) in
    let both = goes_on g.D.Disk l (λ _. Unit {0}) (AreClosed l.cells) (HasFirst l.cells (Filled body) (Stable window)) m (disk_of c.args.cells.now) (disk_of c.close_all.new.cells) (disk_of c.put_base.new.cells) _ _ e.layout e.goes second in
    goes_on g.D.Disk l (λ _. Unit {0}) (HasFirst l.cells (Filled body) (Stable window)) (HasFirst l.cells (Opened body) (Stable window)) k (disk_of c.args.cells.now) (disk_of c.put_base.new.cells) (disk_of c.open_base.new.cells) _ c.open_base.result (f.layout ∙ e.layout) both third
