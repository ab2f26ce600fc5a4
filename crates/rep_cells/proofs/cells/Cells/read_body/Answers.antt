use Rattle.std.proofs.Common.{rules, ◌∙◌}
use Rattle.std.proofs.lemmas.Result.{on_ok_weaker}
use Rattle.rep_cells.proofs.Reading.{body_read, opened_readable, opened_body}
use Rattle.rep_cells.proofs.cells.Cells.read_body.Goals as goal

pub returns-clause-read : goal.returns-clause-read
returns-clause-read g c = λ honest readable.
    on_ok_weaker c.read_at.result (λ reads.
    body_read c.args.self.now.layout (g.D.Disk.history c.args.self.now.disk) c.args.place c.read_at.new.out c.offset.result (g.D.Disk.size c.args.self.now.disk) c.requires.place c.args.self.now.fits (g.met.D.Disk.sized c.args.self.now.disk honest) readable c.offset.ensures reads (search rules)) (c.read_at.ensures.read honest)

pub returns-clause-opened : goal.returns-clause-opened
returns-clause-opened g c = λ honest s body is opened.
    on_ok_weaker c.read_at.result
    (λ same. same ∙ opened_body c.args.self.now.layout (g.D.Disk.history c.args.self.now.disk) s c.args.place body is c.requires.place opened)
    (returns-clause-read g c honest (opened_readable c.args.self.now.layout (g.D.Disk.history c.args.self.now.disk) s c.args.place body is c.requires.place opened))
