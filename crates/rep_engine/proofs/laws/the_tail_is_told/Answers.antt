use Rattle.rep_engine.proofs.Donating.{tail_told}
use Rattle.rep_engine.proofs.laws.the_tail_is_told.Goals as goal

pub returns : goal.returns
returns c = tail_told c.the_log_is_told.ensures
