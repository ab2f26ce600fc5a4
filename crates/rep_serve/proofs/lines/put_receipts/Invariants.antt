use Rattle.std.proofs.Common.{◌≡◌, take}
use Rattle.rep_script.specs.Answering.{Answered}
use Rattle.rep_serve.specs.Serving.{receipt_lines}
use Rattle.rep_serve.proofs.lines.put_receipts.Given as goal

-- the lines of the receipts so far are answered
abbrev pub invariant-loop-receipt : goal.invariant-loop-receipt
invariant-loop-receipt g l = record {
  answered : Answered (g.W.Sink.contents l.initial.writer) (g.W.Sink.contents l.writer) l.waiting.bytes (receipt_lines l.items (take l.receipt-index l.receipts));
  failed : g.W.Sink.failed l.writer ≡ g.W.Sink.failed l.initial.writer;
}
