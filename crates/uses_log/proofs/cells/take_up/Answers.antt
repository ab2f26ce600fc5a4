use Rattle.std.proofs.Common.{◌≡◌, ℕ, List, ap, subst, arith}
use Rattle.rep_disk.specs.History.{History, Synced, seen, pending}
use Rattle.rep_cells.specs.Known.{Assigns, found}
use Rattle.uses_log.proofs.cells.take_up.Goals as goal

pub returns-clause-found : goal.returns-clause-found
returns-clause-found g c = λ honest l fits.
    let old : History = g.D.Disk.history c.args.cells.now.disk in
    let new : History = g.D.Disk.history c.sync.new.self.disk in
    let is : new ≡ Synced old = c.in_ok-sync.ensures.synced honest in
    let sized = g.met.D.Disk.sized c.sync.new.self.disk (c.sync.ensures.call.stays_honest honest) in
    subst (λ (bytes : List ℕ). Assigns l new (found l bytes)) (ap seen is) (c.found_states_stand.ensures l new (omega (arith, fits, sized, c.sync.ensures.call.same_size)) (ap pending is))
