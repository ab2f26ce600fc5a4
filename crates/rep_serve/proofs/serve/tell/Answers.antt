use Rattle.std.proofs.Common.{rules, ◌≡◌}
use Rattle.std.proofs.lemmas.Result.{err_from_is_err_and}
use Rattle.rep_serve.specs.Serving.{line_of_state, receipt_lines}
use Rattle.rep_serve.proofs.Telling.{tells_cut, tells_line}
use Rattle.rep_serve.proofs.serve.tell.Goals as goal

pub returns-in_err-write_receipts-clause-told : goal.returns-in_err-write_receipts-clause-told
returns-in_err-write_receipts-clause-told g c =
    let held = g.W.Sink.contents in
    let p = err_from_is_err_and c.from_residual.result c.from_residual.ensures.1 in
    let cut = rw c.in_err-write_receipts.was at c.write_receipts.ensures.cut in
    let fault = rw c.in_err-write_receipts.was at c.write_receipts.ensures.err in
    let same : c.deref.result.now ≡ c.args.batch.now.receipts.items = search rules in
    rw (← same, p.1, p.2) (tells_cut (receipt_lines c.args.items.now c.deref.result.now) (line_of_state c.args.replica.now) c.args.batch.now.end (held c.args.writer.now) (held c.write_receipts.new.writer) c.in_err-write_receipts.field-0.0 cut.0 fault cut.1)

pub returns-clause-told : goal.returns-clause-told
returns-clause-told g c =
    let held = g.W.Sink.contents in
    let written = rw c.in_ok-write_receipts.was at c.write_receipts.ensures.ok in
    let same : c.deref.result.now ≡ c.args.batch.now.receipts.items = search rules in
    rw (← same, c.in_default.is) (tells_line (receipt_lines c.args.items.now c.deref.result.now) (line_of_state c.args.replica.now) (held c.args.writer.now) (held c.write_receipts.new.writer) (held c.write_state_of.new.writer) c.write_state_of.result written c.write_state_of.ensures.adds)
