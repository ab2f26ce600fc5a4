use Rattle.std.proofs.Common.{arith}
use Rattle.rep_cells.proofs.Syncing.{sync_settles, synced_found}
use Rattle.rep_cells.proofs.cells.Cells.sync.Goals as goal

pub returns-clause-states : goal.returns-clause-states
returns-clause-states g c = λ honest s is.
    sync_settles c.args.self.now.layout (g.D.Disk.history c.args.self.now.disk) (g.D.Disk.history c.sync.new.self) s c.sync.result is (c.sync.ensures.synced honest) (c.sync.ensures.unsynced honest)

pub returns-clause-found : goal.returns-clause-found
returns-clause-found g c = λ honest.
    synced_found c.args.self.now.layout (g.D.Disk.history c.args.self.now.disk) (g.D.Disk.history c.sync.new.self) c.sync.result (omega (arith, c.args.self.now.fits, g.met.D.Disk.sized c.args.self.now.disk honest)) (c.sync.ensures.synced honest)
