use Rattle.std.proofs.Common.{refl, subst, ◌∙◌}
use Rattle.rep_layout.specs.declared.place.Layout.{Layout}
use Rattle.rep_cells.specs.Device.{disk_of, layout_of}
use Rattle.rep_recover.specs.Going.{Goes}
use Rattle.rep_recover.specs.Formatting.{WillClose, AreClosed}
use Rattle.rep_recover.proofs.Going.{goes_synced, goes_on, goes_wrong}
use Rattle.rep_recover.proofs.Formatting.{all_closed}
use Rattle.rep_recover.proofs.format.close_all.Goals as goal

pub returns-in_err-close_supers-clause-goes : goal.returns-in_err-close_supers-clause-goes
returns-in_err-close_supers-clause-goes g c =
    let l : Layout = layout_of c.args.cells.now in
    goes_wrong g.D.Disk l (λ _. Unit {0}) (WillClose 0) (AreClosed l.cells) (disk_of c.args.cells.now) (disk_of c.close_supers.new.cells) _ c.from_residual.result refl c.from_residual.ensures.0 c.in_err-close_supers.ensures.goes

pub returns-in_err-close_log-clause-goes : goal.returns-in_err-close_log-clause-goes
returns-in_err-close_log-clause-goes g c =
    let l : Layout = layout_of c.args.cells.now in
    let m : Layout = layout_of c.close_supers.new.cells in
    let e = c.in_ok-close_supers.ensures in
    let all = goes_on g.D.Disk l (λ _. Unit {0}) (WillClose 0) (WillClose m.cells) m (disk_of c.args.cells.now) (disk_of c.close_supers.new.cells) (disk_of c.close_log.new.cells) _ _ e.layout e.goes c.in_err-close_log.ensures.goes in
    goes_wrong g.D.Disk l (λ _. Unit {0}) (WillClose m.cells) (AreClosed l.cells) (disk_of c.args.cells.now) (disk_of c.close_log.new.cells) _ c.from_residual-in_err-close_log.result refl c.from_residual-in_err-close_log.ensures.0 all

pub returns-clause-goes : goal.returns-clause-goes
returns-clause-goes g c =
    let l : Layout = layout_of c.args.cells.now in
    let m : Layout = layout_of c.close_supers.new.cells in
    let k : Layout = layout_of c.close_log.new.cells in
    let e = c.in_ok-close_supers.ensures in
    let f = c.in_ok-close_log.ensures in
    let s = c.sync.ensures in
    let both = goes_on g.D.Disk l (λ _. Unit {0}) (WillClose 0) (WillClose m.cells) m (disk_of c.args.cells.now) (disk_of c.close_supers.new.cells) (disk_of c.close_log.new.cells) _ _ e.layout e.goes f.goes in
    let three = goes_synced g.D.Disk k (WillClose m.cells) (AreClosed m.cells) (disk_of c.close_log.new.cells) (disk_of c.sync.new.self) c.sync.result s.call s.synced s.unsynced s.states (all_closed m.cells) in
    let all = goes_on g.D.Disk l (λ _. Unit {0}) (WillClose m.cells) (AreClosed m.cells) k (disk_of c.args.cells.now) (disk_of c.close_log.new.cells) (disk_of c.sync.new.self) _ c.sync.result (f.layout ∙ e.layout) both three in
    subst (λ (x : Layout). Goes g.D.Disk l (λ _. Unit {0}) (AreClosed x.cells) (disk_of c.args.cells.now) (disk_of c.sync.new.self) c.sync.result) e.layout all
