use Rattle.rep_follow.proofs.Stops.{settle_why}
use Rattle.rep_follow.proofs.finishing.settle.Goals as goal

pub returns : goal.returns
returns g c =
    let works = c.settle-ended.ensures.works c.requires.running in
    record {
      works = works;
      quiet = c.settle-ended.ensures.quiet;
      counted = rw c.base.ensures at (rw c.base-base.ensures at c.count_checkpoint.ensures);
      refused = settle_why g.D.Disk c.args.replica.now c.settle-ended.new.self c.settle-ended.result works c.settle-ended.ensures.refused;
    }
