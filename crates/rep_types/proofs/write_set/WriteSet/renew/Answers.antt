use Rattle.std.proofs.Common.{sym, subst}
use Rattle.rep_types.specs.Transactions.{IsWithinLimits, transaction}
use Rattle.rep_types.proofs.write_set.WriteSet.renew.Goals as goal

pub put_keys-requires-clause-few : goal.put_keys-requires-clause-few
put_keys-requires-clause-few c = (c.misfit.ensures.few c.in_default.is).0

pub put_copies-requires-clause-few : goal.put_copies-requires-clause-few
put_copies-requires-clause-few c = (c.misfit.ensures.few c.in_default.is).1

pub invariant_of-self : goal.invariant_of-self
invariant_of-self c =
    let fits = c.misfit.ensures.fits c.in_default.is c.put_copies.ensures.short c.args.source c.args.trx c.args.last_seen in
    subst (λ reads. IsWithinLimits (transaction c.args.source c.args.trx c.args.last_seen reads c.put_copies.new.copies.items)) (sym c.put_keys.ensures)
    (subst (λ writes. IsWithinLimits (transaction c.args.source c.args.trx c.args.last_seen c.args.reads.now writes)) (sym c.put_copies.ensures.same) fits)
