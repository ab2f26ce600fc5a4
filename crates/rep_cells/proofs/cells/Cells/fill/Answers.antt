use Rattle.std.proofs.Common.{ℕ, subst}
use Rattle.rep_cells.specs.Calls.{Writes}
use Rattle.rep_cells.proofs.Writing.{body_in, fill_steps}
use Rattle.rep_cells.proofs.cells.Cells.fill.Goals as goal

pub returns-clause-states : goal.returns-clause-states
returns-clause-states g c = λ honest s is.
    fill_steps c.args.self.now.layout (g.D.Disk.history c.args.self.now.disk) (g.D.Disk.history c.write_at.new.self) s c.args.cell c.args.body.now c.write_at.result is c.requires.cell.0 c.requires.size
    (subst (λ (at : ℕ). Writes at c.args.body.now (g.D.Disk.history c.args.self.now.disk) (g.D.Disk.history c.write_at.new.self) c.write_at.result) c.offset.ensures (record { done = c.write_at.ensures.written honest; failed = c.write_at.ensures.spoiled honest }))

pub returns-clause-inside : goal.returns-clause-inside
returns-clause-inside g c = λ honest.
    body_in c.args.self.now.layout c.args.cell c.offset.result c.args.body.now (g.D.Disk.history c.args.self.now.disk) (g.D.Disk.history c.write_at.new.self) c.write_at.result c.requires.cell.0 c.offset.ensures c.requires.size (c.write_at.ensures.written honest)
