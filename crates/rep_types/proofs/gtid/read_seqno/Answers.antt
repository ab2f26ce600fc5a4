use Rattle.std.proofs.Common.{sym, ◌∙◌}
use Rattle.rep_types.proofs.Gtids.{narrowed, no_narrow, by_digits, seqno_limit}
use Rattle.rep_types.proofs.gtid.read_seqno.Goals as goal

none_value : goal.returns-in_err-read_number-clause-value
none_value c =
    c.from_residual.ensures ∙ no_narrow c.args.text.now c.in_err-read_number.ensures ∙ sym (by_digits c.args.text.now (rw c.as_slice.ensures at c.if-eq.ensures) c.if-text-gt-SEQNO_DIGITS.false)

some_value : goal.returns-clause-value
some_value c =
    c.ok.ensures.value ∙ narrowed c.args.text.now c.in_ok-read_number.field-0 c.try_from.result c.in_ok-read_number.ensures c.try_from.ensures
    ∙ sym (by_digits c.args.text.now (rw c.as_slice.ensures at c.if-eq.ensures) c.if-text-gt-SEQNO_DIGITS.false)

pub returns-in_err-read_number-clause-value : goal.returns-in_err-read_number-clause-value
returns-in_err-read_number-clause-value c = none_value c

pub returns-in_err-read_number-clause-limit : goal.returns-in_err-read_number-clause-limit
returns-in_err-read_number-clause-limit c = seqno_limit c.args.text.now _ (none_value c)

pub returns-clause-value : goal.returns-clause-value
returns-clause-value c = some_value c

pub returns-clause-limit : goal.returns-clause-limit
returns-clause-limit c = seqno_limit c.args.text.now _ (some_value c)
