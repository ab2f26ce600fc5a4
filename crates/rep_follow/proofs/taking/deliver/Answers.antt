use Rattle.rep_follow.proofs.Deliveries.{delivered_so}
use Rattle.rep_follow.proofs.taking.deliver.Goals as goal

pub returns : goal.returns
returns g c =
    let d = delivered_so g.D.Disk c.runs_are_joined.ensures c.args.replica.now c.deliver.new.self c.args.seqno c.args.item.now c.deliver.result c.deliver.ensures.step c.outcome.result c.outcome.ensures in
    record { delivers = d.delivers; own = d.own; exact = d.exact }
