use Rattle.std.proofs.Common.{rules}
use Rattle.rep_snap.proofs.publisher.Publisher.publish.Goals as goal

pub publish_all-requires-clause-allowed : goal.publish_all-requires-clause-allowed
publish_all-requires-clause-allowed g c = search rules
