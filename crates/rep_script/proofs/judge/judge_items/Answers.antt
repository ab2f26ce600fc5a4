use Rattle.std.proofs.Common.{Err, ap, ◌∙◌}
use Rattle.std.proofs.lemmas.Result.{err_from_is_err_and}
use Rattle.rep_record.specs.Lines.{ahead}
use Rattle.rep_streams.proofs.Noted.{noted_ok}
use Rattle.rep_script.proofs.Noting.{sent_noted, unsent_noted}
use Rattle.rep_script.proofs.Progress.{items_sent, items_unsent}
use Rattle.rep_script.proofs.judge.judge_items.Goals as goal

pub returns-in_err-send-clause-judged : goal.returns-in_err-send-clause-judged
returns-in_err-send-clause-judged g c =
    let held = g.W.Sink.contents in
    let q = err_from_is_err_and c.from_residual.result c.from_residual.ensures.1 in
    items_unsent (ahead c.args.text.now (g.R.Source.remaining c.args.reader.now)) c.args.text.now c.args.certifier.current.setting c.judge_lines-outcome.result c.from_residual.result
    c.in_err-send.field-0.0 (held c.args.writer.now) (held c.judge_lines-outcome.new.writer) (held c.send.new.writer) c.judge_lines-outcome.new.waiting.bytes (q.1 ∙ ap Err q.2)
    (rw c.in_err-send.was at c.send.ensures.err) (c.judge_lines-outcome.ensures.judged (ap (λ (w : _). w.bytes) c.new-waiting.ensures)) (rw c.in_err-send.was at c.send.ensures.cut)

pub returns-clause-judged : goal.returns-clause-judged
returns-clause-judged g c =
    let held = g.W.Sink.contents in
    items_sent (ahead c.args.text.now (g.R.Source.remaining c.args.reader.now)) c.args.text.now c.args.certifier.current.setting c.judge_lines-outcome.result
    (held c.args.writer.now) (held c.judge_lines-outcome.new.writer) (held c.send.new.writer) c.judge_lines-outcome.new.waiting.bytes
    (c.judge_lines-outcome.ensures.judged (ap (λ (w : _). w.bytes) c.new-waiting.ensures)) (rw c.in_ok-send.was at c.send.ensures.ok)

pub returns-in_err-send-clause-notes : goal.returns-in_err-send-clause-notes
returns-in_err-send-clause-notes g c =
    let q = err_from_is_err_and c.from_residual.result c.from_residual.ensures.1 in
    rw (q.1, q.2) (unsent_noted _ _ _ _ _ _ c.in_err-send.field-0.0 (rw c.in_err-send.was at c.send.ensures.notes) (rw c.in_err-send.was at c.send.ensures.err))

pub returns-clause-notes : goal.returns-clause-notes
returns-clause-notes g c =
    let room = rw c.in_ok-send.was at c.send.ensures.room in
    (sent_noted _ _ _ _ _ _ c.judge_lines-outcome.new.waiting.failed c.judge_lines-outcome.result c.judge_lines-outcome.ensures.notes (noted_ok _ _ _ (rw c.in_ok-send.was at c.send.ensures.notes)) room)
