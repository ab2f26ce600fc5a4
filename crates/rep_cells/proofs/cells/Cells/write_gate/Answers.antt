use Rattle.rep_cells.proofs.Writing.{gate_ends, gate_in, gate_writes}
use Rattle.rep_cells.proofs.cells.Cells.write_gate.Goals as goal

pub write_at-requires : goal.write_at-requires
write_at-requires g c = gate_ends c.args.self.now.layout c.args.cell c.gate.result c.gate_sector.result c.args.first (g.D.Disk.size c.args.self.now.disk) c.requires c.args.self.now.fits c.gate.ensures c.gate_sector.ensures

pub returns-clause-written : goal.returns-clause-written
returns-clause-written g c = λ honest.
    gate_writes c.args.self.now.layout c.args.cell c.gate.result c.gate_sector.result c.args.first _ _ c.write_at.result c.gate.ensures c.gate_sector.ensures (record { done = c.write_at.ensures.written honest; failed = c.write_at.ensures.spoiled honest })

pub returns-clause-inside : goal.returns-clause-inside
returns-clause-inside g c = λ honest.
    gate_in c.args.self.now.layout c.args.cell c.gate.result c.gate_sector.result c.args.first (g.D.Disk.history c.args.self.now.disk) (g.D.Disk.history c.write_at.new.self) c.write_at.result c.requires c.gate.ensures c.gate_sector.ensures (c.write_at.ensures.written honest)
