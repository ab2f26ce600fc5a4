use Rattle.rep_sum.proofs.Telling.{sums_tell}
use Rattle.rep_sum.proofs.laws.sums_tell_states.Goals as goal

pub returns : goal.returns
returns c = sums_tell
