use Rattle.rep_ordered.specs.GoingLaws.{passed_still, passed_more, passed_joined}
use Rattle.rep_ordered.proofs.laws.numbers_pass.Goals as goal

pub returns : goal.returns
returns g c = record { still = passed_still; more = passed_more; joined = passed_joined }
