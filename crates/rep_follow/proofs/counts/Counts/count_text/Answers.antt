use Rattle.rep_follow.proofs.Counting.{counted_text}
use Rattle.rep_follow.proofs.counts.Counts.count_text.Goals as goal

pub returns : goal.returns
returns c seqno said =
    counted_text c.args.self.now c.rise.new.self c.of_text.result c.args.line.now c.is_unreadable.result c.rise.ensures c.of_text.ensures (c.is_unreadable.ensures 0 seqno said)
