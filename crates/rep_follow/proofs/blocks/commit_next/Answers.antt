use Rattle.std.proofs.Common.{inr}
use Rattle.rep_follow.proofs.Committing.{tells_no_block, tells_block}
use Rattle.rep_follow.proofs.Stops.{no_block_why, stream_why}
use Rattle.rep_follow.proofs.blocks.commit_next.Goals as goal

pub returns-in-Err-clause-tells : goal.returns-in-Err-clause-tells
returns-in-Err-clause-tells g c =
    tells_no_block g.D.Disk c.pages_of-pages.result c.args.replica.now c.commit_block.new.self c.args.counts.now c.count_checkpoint.new.self c.in-Err.refusal (g.W.Sink.contents c.args.writer.now)
    (c.in-Err.ensures.commits c.requires.running c.requires.some) (rw c.base-in-Err.ensures at (rw c.base-base.ensures at c.count_checkpoint.ensures))

pub returns-in-Err-clause-refused : goal.returns-in-Err-clause-refused
returns-in-Err-clause-refused g c =
    inr (no_block_why g.D.Disk c.args.replica.now c.commit_block.new.self c.pages_of-pages.result c.in-Err.refusal (c.in-Err.ensures.commits c.requires.running c.requires.some) c.in-Err.ensures.refused)

pub returns-in-Ok-clause-tells : goal.returns-in-Ok-clause-tells
returns-in-Ok-clause-tells g c =
    tells_block g.D.Disk c.pages_of-pages.result c.args.replica.now c.commit_block.new.self c.args.counts.now c.count_block.new.self c.in-Ok.replies (g.W.Sink.contents c.args.writer.now) (g.W.Sink.contents c.write_receipts.new.writer)
    c.write_receipts.result (c.in-Ok.ensures.commits c.requires.running c.requires.some) (rw c.base.ensures at (rw c.base-base.ensures at (rw c.as_slice.ensures at c.count_block.ensures)))
    (rw c.as_slice-in-Ok.ensures at c.write_receipts.ensures.ok) (rw c.as_slice-in-Ok.ensures at c.write_receipts.ensures.cut) c.write_receipts.ensures.err

pub returns-in-Ok-clause-refused : goal.returns-in-Ok-clause-refused
returns-in-Ok-clause-refused g c = stream_why g.D.Disk c.commit_block.new.self c.write_receipts.result c.write_receipts.ensures.err
