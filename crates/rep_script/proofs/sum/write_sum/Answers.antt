use Rattle.std.proofs.Common.{rules}
use Rattle.rep_script.proofs.sum.write_sum.Goals as goal

pub returns-clause-told : goal.returns-clause-told
returns-clause-told g c = search rules
