use Rattle.std.proofs.Common.{suc, ◌+◌, ◌∙◌, ◌++◌, ◌∷◌, [], ap, sym, subst, length, length-append, drop, get_or, take_all}
use Rattle.rep_sum.proofs.Standing.{given_holds}
use Rattle.rep_service.specs.Rows.{rows_of}
use Rattle.rep_sum.specs.Sums.{AreGiven, keys_read}
use Rattle.rep_service.proofs.Given.{no_key, given_push, refused_next, rows_are, split_at, keys_more, given_ahead, refused_ahead}
use Rattle.rep_service.proofs.rows.read_rows.Goals as goal

pub returns-in-Err-clause-reads : goal.returns-in-Err-clause-reads
returns-in-Err-clause-reads g c =
    let at = c.loop-key.key-index in
    let keys = c.args.keys.now in
    refused_next g.D.Disk c.args.at c.args.replica.now c.loop-key.replica c.read_row.new.replica c.loop-key.rows.items (get_or keys at no_key) keys (drop (suc at) keys) c.in-Err.refusal c.loop-key.invariant.given c.in-Err.ensures
    (ap (λ ks. ks ++ get_or keys at no_key ∷ drop (suc at) keys) c.loop-key.invariant.keys ∙ split_at keys at no_key c.loop-key-test.true)

pub loop-key-preserved : goal.loop-key-preserved
loop-key-preserved g c =
    let at = c.loop-key.key-index in
    let keys = c.args.keys.now in
    record {
      keys = ap keys_read c.push.ensures.items ∙ keys_more keys c.loop-key.rows.items at c.in-Ok.value c.loop-key-test.true c.loop-key.invariant.keys;
      given = subst (λ rows. AreGiven g.D.Disk c.args.at c.args.replica.now rows c.read_row.new.replica) (sym c.push.ensures.items) (given_push g.D.Disk c.args.at c.args.replica.now c.loop-key.replica c.read_row.new.replica c.loop-key.rows.items (get_or keys at no_key) c.in-Ok.value c.loop-key.invariant.given c.in-Ok.ensures);
      few = ap length c.push.ensures.items ∙ length-append c.loop-key.rows.items ((get_or keys at no_key, c.in-Ok.value) ∷ []) ∙ ap (λ n. n + 1) c.loop-key.invariant.few;
    }

pub returns-clause-holds : goal.returns-clause-holds
returns-clause-holds g c = λ n holds. given_holds g.D.Disk c.args.at n c.args.replica.now c.loop-key.replica c.loop-key.rows.items c.loop-key.invariant.given holds

pub returns-clause-order : goal.returns-clause-order
returns-clause-order g c = λ n L holds of.
    rows_are g.D.Disk c.args.at c.steps_follow_the_order.ensures n L of c.args.replica.now c.loop-key.replica c.loop-key.rows.items holds c.loop-key.invariant.given ∙ ap (λ keys. rows_of n.facts.setting L keys c.args.at) (c.loop-key.invariant.keys ∙ take_all c.loop-key.key-index c.args.keys.now c.loop-key-test.false)

pub returns-in-Err-clause-ahead : goal.returns-in-Err-clause-ahead
returns-in-Err-clause-ahead g c = refused_ahead g.D.Disk c.args.at c.args.replica.now c.loop-key.replica c.read_row.new.replica c.loop-key.rows.items (get_or c.args.keys.now c.loop-key.key-index no_key) c.in-Err.refusal c.loop-key.invariant.given c.in-Err.ensures

pub returns-clause-ahead : goal.returns-clause-ahead
returns-clause-ahead g c = given_ahead g.D.Disk c.args.at c.args.replica.now c.loop-key.replica c.loop-key.rows.items c.loop-key.invariant.given
