use Rattle.rep_checkpoint.proofs.Arriving.{stand_beside}
use Rattle.rep_checkpoint.proofs.laws.installations_stand_beside.Goals as goal

pub returns : goal.returns
returns c = stand_beside
