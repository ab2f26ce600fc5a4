use Rattle.std.proofs.Common.{refl}
use Rattle.rep_snap.proofs.Changing.{only_pruned}
use Rattle.rep_snap.proofs.shelf.Shelf.take_in.Goals as goal

pub returns-in-Prune : goal.returns-in-Prune
returns-in-Prune g c = rw (c.in-Prune.is, c.max-self.ensures, only_pruned c.in-Prune.position c.args.self.now.kept c.prune.new.self c.prune.ensures) refl
