use Rattle.rep_session.proofs.Coming.{sessions_serial}
use Rattle.rep_session.proofs.laws.sessions_are_serial.Goals as goal

pub returns : goal.returns
returns g c = sessions_serial g.R.Rows.read_gives g.R.Rows.are_of g.met.R.Rows.reads_the_order c.reads_are_serial.ensures
