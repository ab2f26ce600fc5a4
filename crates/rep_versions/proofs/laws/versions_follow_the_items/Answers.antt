use Rattle.rep_versions.proofs.Following.{follow}
use Rattle.rep_versions.proofs.laws.versions_follow_the_items.Goals as goal

pub returns : goal.returns
returns c = follow
