use Rattle.std.proofs.Common.{Err, ap, ◌∙◌}
use Rattle.std.proofs.lemmas.Result.{err_from_is_err_and}
use Rattle.rep_record.specs.Lines.{ahead}
use Rattle.rep_streams.proofs.Noted.{noted_ok}
use Rattle.rep_script.proofs.Noting.{sent_noted, unsent_noted}
use Rattle.rep_script.proofs.Scripting.{unwritten_in_memory}
use Rattle.rep_script.proofs.script.run_from.Goals as goal

pub returns-in_err-send-clause-ends : goal.returns-in_err-send-clause-ends
returns-in_err-send-clause-ends g c p on =
    let q = err_from_is_err_and c.from_residual.result c.from_residual.ensures.1 in
    unwritten_in_memory p (ahead c.args.text.now (g.R.Source.remaining c.args.reader.now)) c.args.text.now c.from_residual.result c.in_err-send.field-0.0 (q.1 ∙ ap Err q.2)
    (rw c.in_err-send.was at c.send.ensures.err)

pub returns-in_err-send-clause-notes : goal.returns-in_err-send-clause-notes
returns-in_err-send-clause-notes g c =
    let q = err_from_is_err_and c.from_residual.result c.from_residual.ensures.1 in
    rw (q.1, q.2) (unsent_noted _ _ _ _ _ _ c.in_err-send.field-0.0 (rw c.in_err-send.was at c.send.ensures.notes) (rw c.in_err-send.was at c.send.ensures.err))

pub returns-clause-notes : goal.returns-clause-notes
returns-clause-notes g c =
    let room = rw c.in_ok-send.was at c.send.ensures.room in
    (sent_noted _ _ _ _ _ _ c.run_in_memory-outcome.new.waiting.failed c.run_in_memory-outcome.result c.run_in_memory-outcome.ensures.notes (noted_ok _ _ _ (rw c.in_ok-send.was at c.send.ensures.notes)) room)
