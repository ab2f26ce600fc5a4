use Rattle.rep_snap.proofs.Lists.{next_follows, more_published}
use Rattle.std.proofs.lemmas.Grind.{common_steps}
use Rattle.std.proofs.Common.{arith}
use Rattle.rep_snap.proofs.pending.add_all.Goals as goal

pub add-requires-clause-follows : goal.add-requires-clause-follows
add-requires-clause-follows g c = grind (arith, common_steps, next_follows, more_published)
