use Rattle.rep_session.proofs.Coming.{sessions_come}
use Rattle.rep_session.proofs.laws.sessions_come_to.Goals as goal

pub returns : goal.returns
returns g c = sessions_come g.R.Rows.read_gives g.R.Rows.are_of g.met.R.Rows.reads_the_order
