use Rattle.std.proofs.Common.{◌≡◌, length, ap, arith, false, ltb}
use Rattle.std.proofs.lemmas.Bool.{le-ltb}
use Rattle.rep_forms.specs.Forms.{each}
use Rattle.rep_forms.proofs.Repeats.{begins, goes_on, ends, is_done}
use Rattle.rep_forms.proofs.run.read_run.Goals as goal

pub loop-init : goal.loop-init
loop-init g c = record {
  read = rw c.new-values.ensures (begins g.T.Form.form.read c.args.count c.args.bytes.now);
  count = ap length c.new-values.ensures;
}

pub returns-in_err-value-clause-read : goal.returns-in_err-value-clause-read
returns-in_err-value-clause-read g c =
    let few : ltb g.row.M c.args.count ≡ false = le-ltb g.row.M c.args.count (omega arith) in
    rw (c.from_residual.ensures, few)
    (ends g.T.Form.form.read c.loop.values.items c.args.count c.loop.counter c.loop.rest.now (each g.T.Form.form.read c.args.count c.args.bytes.now) c.loop-test.true c.in_err-value.ensures c.loop.invariant.read)

pub loop-preserved : goal.loop-preserved
loop-preserved g c = record {
  read =
      rw c.push.ensures.items
      (goes_on g.T.Form.form.read c.loop.values.items c.args.count c.loop.counter c.loop.rest.now c.in_ok-value.value c.in_ok-value.after.now (each g.T.Form.form.read c.args.count c.args.bytes.now) c.loop-test.true c.in_ok-value.ensures c.loop.invariant.read);
  count = omega (arith, c.push.ensures.len);
}

pub returns-clause-read : goal.returns-clause-read
returns-clause-read g c =
    let few : ltb g.row.M c.args.count ≡ false = le-ltb g.row.M c.args.count (omega arith) in
    rw few (is_done g.T.Form.form.read c.loop.values.items c.args.count c.loop.counter c.loop.rest.now (each g.T.Form.form.read c.args.count c.args.bytes.now) c.loop-test.false c.loop.invariant.read)
