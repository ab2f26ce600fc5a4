use Rattle.rep_plain.proofs.Delivering.{delivered_push}
use Rattle.rep_plain.proofs.node.PlainNode.deliver_item.Goals as goal

pub invariant_of-self-2 : goal.invariant_of-self-2
invariant_of-self-2 c =
    delivered_push c.args.self.now c.self.inside.params c.self.inside.items.items c.push.new.self.items c.next_seqno-seqno.result c.args.item c.judge-verdict.result c.self.inside.reach c.after-reach.result
    c.self.view_is c.self.invariant.0 c.self.invariant.1 c.next_seqno-seqno.ensures c.judge-verdict.ensures c.after-reach.ensures c.in_ok-push.ensures.items
