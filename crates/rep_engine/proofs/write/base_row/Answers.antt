use Rattle.rep_cells.specs.Device.{disk_of, layout_of}
use Rattle.rep_engine.proofs.Spelled.{row_spelled}
use Rattle.rep_engine.proofs.Reading.{row_of_base, place_of}
use Rattle.rep_engine.proofs.write.base_row.Goals as goal

pub returns-clause-read : goal.returns-clause-read
returns-clause-read g c = λ pooled honest s content assigns have.
    let is = place_of c.args.superblock.now.params.rows c.args.key c.in-Some.place c.schema.ensures c.page_of.ensures c.in-Some.is in
    row_of_base c.stable_bases_are_read.ensures (layout_of c.args.cells.now) (g.D.Disk.history (disk_of c.args.cells.now)) c.args.superblock.now s content c.args.key c.in-Some.place c.row.result c.requires.super_body c.requires.layout assigns have is.0 is.1 (c.row.ensures.row honest (pooled honest))

pub returns-clause-spelled : goal.returns-clause-spelled
returns-clause-spelled g c = λ pooled honest readable.
    let is = place_of c.args.superblock.now.params.rows c.args.key c.in-Some.place c.schema.ensures c.page_of.ensures c.in-Some.is in
    row_spelled _ c.args.superblock.now c.args.key c.in-Some.place c.row.result is.0 is.1 (c.row.ensures.row honest (pooled honest))
