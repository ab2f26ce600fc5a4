use Rattle.rep_snap.proofs.Rows.{follow}
use Rattle.rep_snap.proofs.laws.peeks_follow_the_fold.Goals as goal

pub returns : goal.returns
returns c = follow
