use Rattle.std.proofs.Common.{rules, arith, ap, subst}
use Rattle.std.specs.Option.{option_map}
use Rattle.rep_forms.specs.Forms.{TakesFront}
use Rattle.rep_transfer.proofs.Wholes.{front_none, front_more}
use Rattle.rep_transfer.proofs.pieces.whole.Goals as goal

pub returns-in_err-value : goal.returns-in_err-value
returns-in_err-value g c = front_none g.T.Form.form c.args.bytes.now c.from_residual.result (subst (TakesFront g.T.Form.form c.args.bytes.now) (ap (option_map _) c.in_err-value.was) c.read_front.ensures) (search rules)

pub returns-else-is_empty : goal.returns-else-is_empty
returns-else-is_empty g c = front_more g.T.Form.form c.args.bytes.now c.in_ok-value.value c.in_ok-value.rest.now (subst (TakesFront g.T.Form.form c.args.bytes.now) (ap (option_map _) c.in_ok-value.was) c.read_front.ensures) (λ e. grind (arith, c.is_empty.ensures, c.if-is_empty.false, e))
