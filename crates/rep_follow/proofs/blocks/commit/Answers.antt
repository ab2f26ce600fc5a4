use Rattle.rep_follow.proofs.Committing.{told_stopped}
use Rattle.rep_follow.proofs.Telling.{blocks_stopped}
use Rattle.rep_follow.proofs.blocks.commit.Goals as goal

pub returns-then-is_stopped-clause-tells : goal.returns-then-is_stopped-clause-tells
returns-then-is_stopped-clause-tells g c = told_stopped g.D.Disk c.args.replica.now c.args.counts.now (g.W.Sink.contents c.args.writer.now) c.limits.ensures

pub returns-then-is_stopped-clause-begins : goal.returns-then-is_stopped-clause-begins
returns-then-is_stopped-clause-begins g c some = blocks_stopped g.D.Disk c.args.replica.now c.args.counts.now (g.W.Sink.contents c.args.writer.now) c.limits.ensures
