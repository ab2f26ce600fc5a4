use Rattle.uses_snap.proofs.Fronts.{longer}
use Rattle.uses_snap.proofs.steady.Steady.publish.Goals as goal

pub invariant_of-steady : goal.invariant_of-steady
invariant_of-steady g c = record { front_is = longer c.histories_grow.ensures c.args.self.publisher c.publish-publisher.result.0 c.publish-publisher.result.1 c.in-Ok.field-0 c.in-Ok.is c.args.seqno c.args.writes.now c.publish-publisher.ensures.change }
