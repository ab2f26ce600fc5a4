use Rattle.std.proofs.Common.{◌∙◌}
use Rattle.std.proofs.lemmas.Result.{err_from_is_err_and}
use Rattle.rep_streams.proofs.Noted.{noted_ok}
use Rattle.rep_serve.proofs.Telling.{lines_cut, line_cut, line_put, item_at}
use Rattle.rep_serve.proofs.lines.put_receipts.Goals as goal

pub returns-in_err-make_room-clause-cut : goal.returns-in_err-make_room-clause-cut
returns-in_err-make_room-clause-cut g c =
    let held = g.W.Sink.contents in
    let p = err_from_is_err_and c.from_residual.result c.from_residual.ensures.1 in
    let cut = rw c.in_err-make_room.was at c.make_room.ensures.cut in
    rw p.1 (lines_cut c.args.items.now c.args.receipts.now c.loop-receipt.receipt-index cut.0 (held c.args.writer.now) (held c.loop-receipt.writer) (held c.make_room.new.writer) c.loop-receipt.waiting.bytes c.make_room.new.waiting.bytes c.loop-receipt.invariant.answered cut.1)

pub returns-in_err-put_receipt-clause-cut : goal.returns-in_err-put_receipt-clause-cut
returns-in_err-put_receipt-clause-cut g c =
    let held = g.W.Sink.contents in
    let p = err_from_is_err_and c.from_residual-in_err-put_receipt.result c.from_residual-in_err-put_receipt.ensures.1 in
    let sent = rw c.in_ok-make_room.was at c.make_room.ensures.sent in
    let cut = rw c.in_err-put_receipt.was at c.put_receipt.ensures.cut in
    rw p.1 (line_cut c.args.items.now c.args.receipts.now c.loop-receipt.receipt-index cut.0 _ c.index-items-receipt.result (held c.args.writer.now) (held c.loop-receipt.writer) (held c.make_room.new.writer) c.loop-receipt.waiting.bytes c.make_room.new.waiting.bytes c.put_receipt.new.waiting.bytes
    c.loop-receipt-test.true (item_at c.args.items.now c.args.receipts.now c.loop-receipt.receipt-index _ c.index-items-receipt.result _ c.requires.places c.loop-receipt-test.true c.index-items-receipt.is) c.loop-receipt.invariant.answered sent cut.1)

pub loop-receipt-preserved : goal.loop-receipt-preserved
loop-receipt-preserved g c =
    let held = g.W.Sink.contents in
    let sent = rw c.in_ok-make_room.was at c.make_room.ensures.sent in
    let put = rw c.in_ok-put_receipt.was at c.put_receipt.ensures.ok in
    record {
      answered = line_put c.args.items.now c.args.receipts.now c.loop-receipt.receipt-index _ c.index-items-receipt.result (held c.args.writer.now) (held c.loop-receipt.writer) (held c.make_room.new.writer) c.loop-receipt.waiting.bytes c.make_room.new.waiting.bytes c.put_receipt.new.waiting.bytes
          c.loop-receipt-test.true (item_at c.args.items.now c.args.receipts.now c.loop-receipt.receipt-index _ c.index-items-receipt.result _ c.requires.places c.loop-receipt-test.true c.index-items-receipt.is) c.loop-receipt.invariant.answered sent put;
      failed = noted_ok _ _ _ (rw c.in_ok-make_room.was at c.make_room.ensures.notes) ∙ c.loop-receipt.invariant.failed;
    }
