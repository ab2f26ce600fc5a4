use Rattle.std.proofs.lemmas.Result.{err_from_is_err_and}
use Rattle.rep_script.proofs.Noting.{text_long, no_params, nothing_behind, rest_behind}
use Rattle.rep_script.proofs.Scripting.{memory, script_unread, script_without_disk, script_read}
use Rattle.rep_script.proofs.script.run_script.Goals as goal

pub returns-in_err-params-clause-ends : goal.returns-in_err-params-clause-ends
returns-in_err-params-clause-ends g c =
    let left = g.R.Source.remaining in
    let q = err_from_is_err_and c.from_residual.result c.from_residual.ensures.1 in
    rw (q.1, q.2) (script_unread memory (left c.args.reader.now) (left c.read_params.new.reader) c.new-text.result c.read_params.new.text
    c.in_err-params.field-0.0 c.new-text.ensures (rw c.in_err-params.was at c.read_params.ensures.read))

pub returns-in_err-replica-clause-ends : goal.returns-in_err-replica-clause-ends
returns-in_err-replica-clause-ends g c =
    let left = g.R.Source.remaining in
    let q = err_from_is_err_and c.from_residual-in_err-replica.result c.from_residual-in_err-replica.ensures.1 in
    rw (q.1, q.2) (script_without_disk memory (left c.args.reader.now) (left c.read_params.new.reader) c.new-text.result c.read_params.new.text
    c.in_ok-params.params c.in_err-replica.field-0.0 c.new-text.ensures (rw c.in_ok-params.was at c.read_params.ensures.read) (rw c.in_err-replica.was at c.on_new_disk.ensures.opened))

pub returns-clause-ends : goal.returns-clause-ends
returns-clause-ends g c =
    let left = g.R.Source.remaining in
    (script_read memory (left c.args.reader.now) (left c.read_params.new.reader) c.new-text.result c.read_params.new.text
    c.in_ok-params.params c.run_from.result c.new-text.ensures (rw c.in_ok-params.was at c.read_params.ensures.read)
    (c.run_from.ensures.ends c.in_ok-params.params (rw c.in_ok-replica.was at c.on_new_disk.ensures.opened)))

-- ---- the notes of the streams

pub returns-in_err-params-clause-notes : goal.returns-in_err-params-clause-notes
returns-in_err-params-clause-notes g c =
    let left = g.R.Source.remaining in
    let whole = text_long c.new-text.result (left c.args.reader.now) c.new-text.ensures in
    let p = err_from_is_err_and c.from_residual.result c.from_residual.ensures.1 in
    rw (p.1, p.2) (no_params _ _ _ _ _ c.in_err-params.field-0.0 whole (rw c.in_err-params.was at c.read_params.ensures.notes))

pub returns-in_err-replica-clause-notes : goal.returns-in_err-replica-clause-notes
returns-in_err-replica-clause-notes g c =
    let left = g.R.Source.remaining in
    let whole = text_long c.new-text.result (left c.args.reader.now) c.new-text.ensures in
    let p = err_from_is_err_and c.from_residual-in_err-replica.result c.from_residual-in_err-replica.ensures.1 in
    rw (p.1, p.2) (nothing_behind _ _ _ _ _ c.in_ok-params.params c.in_err-replica.field-0.0 (rw c.in_ok-params.was at c.read_params.ensures.notes) (rw c.in_err-replica.was at c.on_new_disk.ensures.own))

pub returns-clause-notes : goal.returns-clause-notes
returns-clause-notes g c =
    let left = g.R.Source.remaining in
    let whole = text_long c.new-text.result (left c.args.reader.now) c.new-text.ensures in
    (rest_behind _ _ _ _ _ _ _ _ c.in_ok-params.params c.run_from.result whole (rw c.in_ok-params.was at c.read_params.ensures.left) (rw c.in_ok-params.was at c.read_params.ensures.notes) c.run_from.ensures.notes)
