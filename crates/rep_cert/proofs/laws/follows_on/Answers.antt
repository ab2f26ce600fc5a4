use Rattle.rep_cert.proofs.Following.{Follows_push}
use Rattle.rep_cert.proofs.laws.follows_on.Goals as goal

pub returns : goal.returns
returns c = Follows_push
