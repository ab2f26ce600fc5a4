use Rattle.std.proofs.lemmas.Result.{err_from_is_err_and}
use Rattle.rep_serve.specs.Serving.{receipt_lines}
use Rattle.rep_serve.proofs.Telling.{lines_unsent}
use Rattle.rep_serve.proofs.lines.write_receipts.Goals as goal

pub returns-in_err-send-clause-cut : goal.returns-in_err-send-clause-cut
returns-in_err-send-clause-cut g c =
    let held = g.W.Sink.contents in
    let p = err_from_is_err_and c.from_residual.result c.from_residual.ensures.1 in
    let cut = rw c.in_err-send.was at c.send.ensures.cut in
    rw p.1 (lines_unsent (receipt_lines c.args.items.now c.args.receipts.now) c.put_receipts-outcome.result (held c.args.writer.now) (held c.put_receipts-outcome.new.writer) (held c.send.new.writer) c.put_receipts-outcome.new.waiting.bytes cut.0 c.put_receipts-outcome.ensures.ok c.put_receipts-outcome.ensures.cut cut.1)
