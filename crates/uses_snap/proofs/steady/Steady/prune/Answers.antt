use Rattle.uses_snap.proofs.Fronts.{pruned}
use Rattle.uses_snap.proofs.steady.Steady.prune.Goals as goal

pub invariant_of-result : goal.invariant_of-result
invariant_of-result g c = record { front_is = pruned c.histories_grow.ensures c.args.self.publisher c.prune-publisher.result.0 c.prune-publisher.result.1 c.in-Ok.field-0 c.in-Ok.is c.args.position c.args.self.front c.args.self.front_is c.prune-publisher.ensures.change }
