use Rattle.std.proofs.Common.{ap, ◌∙◌}
use Rattle.rep_disk.specs.History.{failed}
use Rattle.rep_cells.specs.Device.{disk_of, layout_of}
use Rattle.rep_recover.proofs.Reading.{looks_on, pages_more}
use Rattle.rep_recover.proofs.pages.read_pages.Goals as goal

pub loop-number-preserved : goal.loop-number-preserved
loop-number-preserved g c =
    let inv = c.loop-number.invariant in
    let e = c.in_ok-read_page.ensures in
    let first = disk_of c.args.cells.now in
    let disk = disk_of c.loop-number.cells in
    record {
      layout = e.layout ∙ inv.layout;
      lap = inv.lap;
      room = e.room;
      looks = looks_on g.D.Disk first disk (disk_of c.read_page.new.cells) _ _ inv.looks e.looks;
      found = λ honest none. pages_more (layout_of c.args.cells.now) (layout_of c.loop-number.cells) (g.D.Disk.history first) (g.D.Disk.history disk) c.args.superblock.now c.loop-number.number inv.layout (inv.looks.same honest)
          (inv.found honest none) (e.found (inv.looks.call.stays_honest honest) (ap failed (inv.looks.same honest) ∙ none));
    }
