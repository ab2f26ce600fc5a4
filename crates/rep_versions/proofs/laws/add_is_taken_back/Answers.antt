use Rattle.rep_versions.proofs.Changes.{taken_back}
use Rattle.rep_versions.proofs.laws.add_is_taken_back.Goals as goal

pub returns : goal.returns
returns c = taken_back
