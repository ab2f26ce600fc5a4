use Rattle.std.proofs.Common.{Ok, Err, refl}
use Rattle.rep_cells.specs.Device.{disk_of, layout_of}
use Rattle.rep_checkpoint.proofs.GoingOn.{goes_on}
use Rattle.rep_checkpoint.proofs.checkpoint.Checkpoint.next.Goals as goal

pub returns-in-Ok-clause-goes : goal.returns-in-Ok-clause-goes
returns-in-Ok-clause-goes g c = λ due.
    goes_on g.D.Disk (layout_of c.args.cells.now) c.args.self.now c.go_on.new.self (disk_of c.args.cells.now) (disk_of c.write_next.new.cells) c.write_next.result (Ok c.in-Ok.field-0) due c.in-Ok.ensures.fault c.go_on.ensures tt c.in-Ok.ensures.only
    c.write_next.ensures.written c.write_next.ensures.inside c.write_next.ensures.states

pub returns-in-Err-clause-goes : goal.returns-in-Err-clause-goes
returns-in-Err-clause-goes g c = λ due.
    goes_on g.D.Disk (layout_of c.args.cells.now) c.args.self.now c.args.self.now (disk_of c.args.cells.now) (disk_of c.write_next.new.cells) c.write_next.result (Err c.in-Err.refusal) due c.in-Err.ensures.fault tt (c.in-Err.ensures.only, refl)
    c.in-Err.ensures.only c.write_next.ensures.written c.write_next.ensures.inside c.write_next.ensures.states
