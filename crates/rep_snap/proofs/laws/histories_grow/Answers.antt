use Rattle.rep_snap.proofs.Growing.{grow}
use Rattle.rep_snap.proofs.laws.histories_grow.Goals as goal

pub returns : goal.returns
returns c = grow
