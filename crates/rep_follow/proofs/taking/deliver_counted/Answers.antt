use Rattle.std.proofs.Common.{◌≡◌, Some, sym, subst}
use Rattle.rep_steps.specs.Standings.{refusal}
use Rattle.rep_steps.specs.Events.{delivery}
use Rattle.rep_follow.proofs.Committing.{goes_item, goes_no_item}
use Rattle.rep_follow.proofs.taking.deliver_counted.Goals as goal

pub returns-in-Ok-clause-goes : goal.returns-in-Ok-clause-goes
returns-in-Ok-clause-goes g c text =
    goes_item g.D.Disk c.args.replica.now c.deliver.new.replica c.args.item.now c.args.counts.now c.rise.new.self text c.in-Ok.ensures.delivers (rw (c.of_item-more.ensures c.args.item.now) at c.rise.ensures)

pub returns-in-Err-clause-goes : goal.returns-in-Err-clause-goes
returns-in-Err-clause-goes g c text = goes_no_item g.D.Disk c.args.replica.now c.deliver.new.replica c.args.item.now c.args.counts.now text c.in-Err.refusal c.in-Err.ensures.delivers c.limits.ensures

pub returns-in-Err-clause-refused : goal.returns-in-Err-clause-refused
returns-in-Err-clause-refused g c = subst (λ s. refusal s (delivery c.args.seqno c.args.item.now) ≡ Some c.in-Err.refusal) (sym c.in-Err.ensures.delivers.same) c.in-Err.ensures.exact
