use Rattle.rep_types.proofs.Repeating.{equal_items}
use Rattle.rep_types.proofs.laws.equal_items_commit_once.Goals as goal

pub returns : goal.returns
returns c = equal_items
