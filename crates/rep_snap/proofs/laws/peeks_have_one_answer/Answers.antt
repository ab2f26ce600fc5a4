use Rattle.rep_snap.proofs.Growing.{one}
use Rattle.rep_snap.proofs.laws.peeks_have_one_answer.Goals as goal

pub returns : goal.returns
returns c = one
