use Rattle.std.proofs.Common.{◌≡◌, ◌<◌, ◌^◌, true, subst, arith}
use Rattle.rep_types.specs.Settings.{Setting, is_setting}
use Rattle.rep_catchup.proofs.Donated.{some_base}
use Rattle.rep_catchup.proofs.donor.some_base_comes.Goals as goal

pub returns : goal.returns
returns g c =
    let b = c.args.replica.now.engine.checkpoint.base in
    let small : b.position < 2 ^ 64 = omega (arith, c.base.ensures) in
    some_base b c.args.have.now c.needs_snapshot.result (subst (λ (p : Setting). is_setting p ≡ true) c.params.ensures c.window.ensures.limits) small c.needs_snapshot.ensures
