use Rattle.std.proofs.Common.{◌≡◌, [], take}
use Rattle.rep_follow.specs.Counting.{one_where, tally, risen_by}
use Rattle.rep_follow.proofs.counts.Counts.count_block.Given as goal

-- the block, and its receipts so far
abbrev pub invariant-loop-reply : goal.invariant-loop-reply
invariant-loop-reply l = l.self ≡ risen_by l.fn.self (tally [] [] (take l.reply-index l.replies) 1 (one_where l.ended))
