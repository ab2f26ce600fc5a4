use Rattle.std.proofs.Common.{◌≡◌, Err}
use Rattle.std.proofs.lemmas.Result.{err_from_is_err_and}
use Rattle.rep_types.specs.declared.refusal.Refusal.TheVariants.{OutOfMemory}
use Rattle.rep_record.specs.Lines.{ahead}
use Rattle.rep_script.proofs.Noting.{text_long, no_params, nothing_behind, rest_behind}
use Rattle.rep_script.proofs.Progress.{text_unread, text_read, none_judged}
use Rattle.rep_script.proofs.judge.judge_text.Goals as goal

pub returns-in_err-params-clause-judged : goal.returns-in_err-params-clause-judged
returns-in_err-params-clause-judged g c =
    let left = g.R.Source.remaining in
    let p = err_from_is_err_and c.from_residual.result c.from_residual.ensures.1 in
    rw (p.1, p.2) (text_unread (left c.args.reader.now) (left c.read_params.new.reader) (g.W.Sink.contents c.args.writer.now) c.new-text.result
    c.read_params.new.text c.in_err-params.field-0.0 c.new-text.ensures (rw c.in_err-params.was at c.read_params.ensures.read))

pub returns-in_err-certifier-clause-judged : goal.returns-in_err-certifier-clause-judged
returns-in_err-certifier-clause-judged g c =
    let left = g.R.Source.remaining in
    let held = g.W.Sink.contents in
    let p = err_from_is_err_and c.from_residual-in_err-certifier.result c.from_residual-in_err-certifier.ensures.1 in
    let memory = rw c.in_err-certifier.was at c.first_certifier.ensures.refused in
    rw (p.1, p.2, memory) (text_read (left c.args.reader.now) (left c.read_params.new.reader) (held c.args.writer.now) (held c.args.writer.now) c.new-text.result
    c.read_params.new.text c.in_ok-params.params (Err OutOfMemory) c.new-text.ensures (rw c.in_ok-params.was at c.read_params.ensures.read)
    (none_judged (ahead c.read_params.new.text (left c.read_params.new.reader)) c.read_params.new.text c.in_ok-params.params (held c.args.writer.now)))

pub returns-clause-judged : goal.returns-clause-judged
returns-clause-judged g c =
    let left = g.R.Source.remaining in
    let held = g.W.Sink.contents in
    let made = rw c.in_ok-certifier.was at c.first_certifier.ensures.made in
    (text_read (left c.args.reader.now) (left c.read_params.new.reader) (held c.args.writer.now) (held c.judge_items.new.writer) c.new-text.result
    c.read_params.new.text c.in_ok-params.params c.judge_items.result c.new-text.ensures (rw c.in_ok-params.was at c.read_params.ensures.read)
    (rw made.0 at c.judge_items.ensures.judged))

-- ---- the notes of the streams

pub returns-in_err-params-clause-notes : goal.returns-in_err-params-clause-notes
returns-in_err-params-clause-notes g c =
    let left = g.R.Source.remaining in
    let whole = text_long c.new-text.result (left c.args.reader.now) c.new-text.ensures in
    let p = err_from_is_err_and c.from_residual.result c.from_residual.ensures.1 in
    rw (p.1, p.2) (no_params _ _ _ _ _ c.in_err-params.field-0.0 whole (rw c.in_err-params.was at c.read_params.ensures.notes))

pub returns-in_err-certifier-clause-notes : goal.returns-in_err-certifier-clause-notes
returns-in_err-certifier-clause-notes g c =
    let left = g.R.Source.remaining in
    let whole = text_long c.new-text.result (left c.args.reader.now) c.new-text.ensures in
    let p = err_from_is_err_and c.from_residual-in_err-certifier.result c.from_residual-in_err-certifier.ensures.1 in
    rw (p.1, p.2) (nothing_behind _ _ _ _ _ c.in_ok-params.params c.in_err-certifier.field-0.0 (rw c.in_ok-params.was at c.read_params.ensures.notes) (λ is. absurd (let other : c.in_err-certifier.field-0.0 ≡ OutOfMemory = rw c.in_err-certifier.was at c.first_certifier.ensures.refused in cc)))

pub returns-clause-notes : goal.returns-clause-notes
returns-clause-notes g c =
    let left = g.R.Source.remaining in
    let whole = text_long c.new-text.result (left c.args.reader.now) c.new-text.ensures in
    (rest_behind _ _ _ _ _ _ _ _ c.in_ok-params.params c.judge_items.result whole (rw c.in_ok-params.was at c.read_params.ensures.left) (rw c.in_ok-params.was at c.read_params.ensures.notes) c.judge_items.ensures.notes)
