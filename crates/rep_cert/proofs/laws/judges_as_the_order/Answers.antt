use Rattle.rep_cert.proofs.Following.{verdict_of_order}
use Rattle.rep_cert.proofs.laws.judges_as_the_order.Goals as goal

pub returns : goal.returns
returns c = verdict_of_order
