use Rattle.std.proofs.Common.{Ok, Err, refl, sym, subst}
use Rattle.rep_cells.specs.Device.{disk_of, layout_of}
use Rattle.rep_pool.specs.BasePages.{IsPooled, GoesOnIf}
use Rattle.rep_checkpoint.specs.Standing.{Standing}
use Rattle.rep_checkpoint.specs.Pages.{MovesPage}
use Rattle.rep_checkpoint.proofs.Flushing.{flushes}
use Rattle.rep_checkpoint.proofs.checkpoint.Checkpoint.flush.Goals as goal

pub returns-in-Ok-clause-flushes : goal.returns-in-Ok-clause-flushes
returns-in-Ok-clause-flushes g c = λ due pooled.
    let moves = subst (λ (v : Standing). MovesPage {T = Unit {0}} g.D.Disk (layout_of c.args.cells.now) v.base c.args.versions.now c.next_position-position.result c.args.page (disk_of c.args.cells.now) (disk_of c.move_page.new.cells) (Ok c.in-Ok.field-0)) c.self.view_is (c.in-Ok.ensures.moves (subst (λ (v : Standing). IsPooled g.D.Disk v.base.params.rows (layout_of c.args.cells.now) (disk_of c.args.cells.now) c.args.pool.now) (sym c.self.view_is) pooled)) in
    flushes g.D.Disk (layout_of c.args.cells.now) c.args.versions.now c.args.page c.args.self.now c.flushed.new.self c.next_position-position.result (disk_of c.args.cells.now) (disk_of c.move_page.new.cells) (Ok c.in-Ok.field-0)
    due c.next_position-position.ensures c.flushed.ensures tt moves

pub returns-in-Err-clause-flushes : goal.returns-in-Err-clause-flushes
returns-in-Err-clause-flushes g c = λ due pooled.
    let moves = subst (λ (v : Standing). MovesPage {T = Unit {0}} g.D.Disk (layout_of c.args.cells.now) v.base c.args.versions.now c.next_position-position.result c.args.page (disk_of c.args.cells.now) (disk_of c.move_page.new.cells) (Err c.in-Err.refusal)) c.self.view_is (c.in-Err.ensures.moves (subst (λ (v : Standing). IsPooled g.D.Disk v.base.params.rows (layout_of c.args.cells.now) (disk_of c.args.cells.now) c.args.pool.now) (sym c.self.view_is) pooled)) in
    flushes g.D.Disk (layout_of c.args.cells.now) c.args.versions.now c.args.page c.args.self.now c.args.self.now c.next_position-position.result (disk_of c.args.cells.now) (disk_of c.move_page.new.cells) (Err c.in-Err.refusal)
    due c.next_position-position.ensures tt (c.in-Err.ensures.refused, refl) moves

pub returns-in-Ok-clause-agrees : goal.returns-in-Ok-clause-agrees
returns-in-Ok-clause-agrees g c =
    subst (λ (v : Standing). GoesOnIf {T = Unit {0}} g.D.Disk v.base.params.rows (layout_of c.args.cells.now) (disk_of c.args.cells.now) (disk_of c.move_page.new.cells) c.args.pool.now c.move_page.new.pool (Ok c.in-Ok.field-0)) c.self.view_is c.in-Ok.ensures.agrees

pub returns-in-Err-clause-agrees : goal.returns-in-Err-clause-agrees
returns-in-Err-clause-agrees g c =
    subst (λ (v : Standing). GoesOnIf {T = Unit {0}} g.D.Disk v.base.params.rows (layout_of c.args.cells.now) (disk_of c.args.cells.now) (disk_of c.move_page.new.cells) c.args.pool.now c.move_page.new.pool (Err c.in-Err.refusal)) c.self.view_is c.in-Err.ensures.agrees
