use Rattle.std.proofs.Common.{◌≡◌, ◌≤◌, ◌*◌, length, take}
use Rattle.rep_follow.specs.Receipts.{receipt_lines}
use Rattle.rep_follow.proofs.receipts.write_receipts.Given as goal

-- the lines of the receipts so far
abbrev pub invariant-loop-reply : goal.invariant-loop-reply
invariant-loop-reply g l = record {
  text : l.lines.items ≡ receipt_lines (take l.reply-index l.replies);
  few : length l.lines.items ≤ 93 * l.reply-index;
}
