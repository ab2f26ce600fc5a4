use Rattle.std.proofs.Common.{rules}
use Rattle.rep_script.proofs.sum.sum_text.Goals as goal

pub returns-in_err-sum-clause-told : goal.returns-in_err-sum-clause-told
returns-in_err-sum-clause-told g c = search rules
