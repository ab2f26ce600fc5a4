use Rattle.std.proofs.Common.{rules}
use Rattle.rep_catchup.proofs.donor.needs_snapshot.Goals as goal

pub returns-else-is_nil : goal.returns-else-is_nil
returns-else-is_nil g c = search rules
