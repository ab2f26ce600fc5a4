use Rattle.std.proofs.lemmas.Result.{on_ok_weaker}
use Rattle.rep_cells.proofs.Reading.{area_reads, shown}
use Rattle.rep_cells.proofs.cells.Cells.read_area.Goals as goal

pub returns-clause-read : goal.returns-clause-read
returns-clause-read g c = λ honest readable.
    on_ok_weaker c.read_body.result (λ same. area_reads c.args.self.now.layout (g.D.Disk.history c.args.self.now.disk) c.args.area c.read_body.new.room c.requires.area same) (c.read_body.ensures.read honest readable.0)

pub returns-clause-shown : goal.returns-clause-shown
returns-clause-shown g c = λ honest s is sure.
    on_ok_weaker c.read_body.result (λ same. shown c.args.self.now.layout (g.D.Disk.history c.args.self.now.disk) s c.args.area _ is c.requires.area.0 same) (returns-clause-read g c honest (is.readable c.args.area c.requires.area.0 sure))
