use Rattle.std.proofs.Common.{Err, ap, ◌∙◌}
use Rattle.std.proofs.lemmas.Result.{err_from_is_err_and}
use Rattle.rep_script.specs.Scripts.{Does}
use Rattle.rep_streams.proofs.Noted.{noted_ok}
use Rattle.rep_script.proofs.Noting.{sent_noted, unsent_noted, text_long, text_noted}
use Rattle.rep_script.proofs.Scripting.{text_run, unwritten_on_disk}
use Rattle.rep_script.proofs.script.run_text.Goals as goal

pub returns-in_err-send-clause-ends : goal.returns-in_err-send-clause-ends
returns-in_err-send-clause-ends g c =
    let left = g.R.Source.remaining in
    let q = err_from_is_err_and c.from_residual.result c.from_residual.ensures.1 in
    (unwritten_on_disk (Does g.D.Disk) (left c.args.reader.now) c.args.replica.now c.run_lines-outcome.new.replica
    c.run_lines-outcome.result c.from_residual.result c.in_err-send.field-0.0 (q.1 ∙ ap Err q.2) (rw c.in_err-send.was at c.send.ensures.err)
    (text_run (Does g.D.Disk) (left c.args.reader.now) c.new-text.result c.args.replica.now c.run_lines-outcome.new.replica
    c.run_lines-outcome.result c.new-text.ensures c.run_lines-outcome.ensures.ends))

pub returns-clause-ends : goal.returns-clause-ends
returns-clause-ends g c =
    let left = g.R.Source.remaining in
    (text_run (Does g.D.Disk) (left c.args.reader.now) c.new-text.result c.args.replica.now c.run_lines-outcome.new.replica
    c.run_lines-outcome.result c.new-text.ensures c.run_lines-outcome.ensures.ends)

pub returns-in_err-send-clause-notes : goal.returns-in_err-send-clause-notes
returns-in_err-send-clause-notes g c =
    let q = err_from_is_err_and c.from_residual.result c.from_residual.ensures.1 in
    rw (q.1, q.2) (unsent_noted _ _ _ _ _ _ c.in_err-send.field-0.0 (rw c.in_err-send.was at c.send.ensures.notes) (rw c.in_err-send.was at c.send.ensures.err))

pub returns-clause-notes : goal.returns-clause-notes
returns-clause-notes g c =
    let left = g.R.Source.remaining in
    let whole = text_long c.new-text.result (left c.args.reader.now) c.new-text.ensures in
    let room = rw c.in_ok-send.was at c.send.ensures.room in
    (text_noted _ _ _ _ _ _ c.run_lines-outcome.result whole
    (sent_noted _ _ _ _ _ _ c.run_lines-outcome.new.waiting.failed c.run_lines-outcome.result c.run_lines-outcome.ensures.notes (noted_ok _ _ _ (rw c.in_ok-send.was at c.send.ensures.notes)) room))
