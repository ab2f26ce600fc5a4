use Rattle.rep_cells.proofs.Writing.{close_steps}
use Rattle.rep_cells.proofs.cells.Cells.close_gate.Goals as goal

pub returns-clause-states : goal.returns-clause-states
returns-clause-states g c = λ honest s is. close_steps c.args.self.now.layout (g.D.Disk.history c.args.self.now.disk) (g.D.Disk.history c.write_gate.new.self.disk) s c.args.cell c.write_gate.result is c.requires (c.write_gate.ensures.written honest)
