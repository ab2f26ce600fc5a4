use Rattle.std.proofs.Common.{◌≡◌, ℕ, ◌⊎◌, List, Err, ap, sym, subst, ◌∙◌}
use Rattle.std.specs.Prelude.{ℤ, pos, IsTrue, IfErr}
use Rattle.std.proofs.lemmas.Int.{to_z_pos}
use Rattle.std.specs.Int.{w64}
use Rattle.std.proofs.lemmas.Result.{err_from_is_err_and}
use Rattle.rep_types.specs.Gtids.{Gtid, is_seqno}
use Rattle.rep_types.specs.declared.refusal.Refusal.TheVariants.{DiskFault, Corrupt}
use Rattle.rep_types.specs.declared.refusal.Part.TheVariants.{Pages}
use Rattle.rep_replica.specs.Replicas.{facts_of}
use Rattle.rep_sum.specs.declared.sum.Sum.{Sum}
use Rattle.rep_sum.specs.Sums.{IsSumAt}
use Rattle.rep_sum.proofs.Standing.{is_in_range, sum_refused, sum_given, sum_read, refused_only, refused_by_device, given_holds, sum_is, sum_of_order, made_is, no_corruption}
use Rattle.rep_sum.proofs.sum.sum_at.Goals as goal

-- ---- a row was refused

pub returns-in_err-add_tables-clause-sum : goal.returns-in_err-add_tables-clause-sum
returns-in_err-add_tables-clause-sum g c =
    let q = err_from_is_err_and c.from_residual.result c.from_residual.ensures.1 in
    let none = sym c.sum_refusal.ensures ∙ c.in_default.is in
    subst (λ r. IsSumAt g.D.Disk c.args.position c.args.replica.now r c.add_tables.new.replica) (sym (q.1 ∙ ap Err q.2))
    (sum_refused g.D.Disk c.args.position c.args.replica.now c.add_tables.new.replica c.in_err-add_tables.field-0.0 none c.in_err-add_tables.ensures.added)

pub returns-in_err-add_tables-clause-only : goal.returns-in_err-add_tables-clause-only
returns-in_err-add_tables-clause-only g c = λ none.
    let q = err_from_is_err_and c.from_residual.result c.from_residual.ensures.1 in
    subst (λ r. IfErr r (λ e. (e ≡ DiskFault) ⊎ (e ≡ Corrupt Pages))) (sym (q.1 ∙ ap Err q.2))
    (refused_only g.D.Disk c.args.position c.args.replica.now c.add_tables.new.replica c.in_err-add_tables.field-0.0 none c.in_err-add_tables.ensures.added)

pub returns-in_err-add_tables-clause-holds : goal.returns-in_err-add_tables-clause-holds
returns-in_err-add_tables-clause-holds g c = λ n holds fine.
    let q = err_from_is_err_and c.from_residual.result c.from_residual.ensures.1 in
    let none = sym c.sum_refusal.ensures ∙ c.in_default.is in
    let fault = refused_by_device g.D.Disk c.args.position n c.args.replica.now c.add_tables.new.replica c.in_err-add_tables.field-0.0 holds none c.in_err-add_tables.ensures.added in
    absurd (fine (q.1 ∙ ap Err (q.2 ∙ fault)))

pub returns-in_err-add_tables-clause-whole : goal.returns-in_err-add_tables-clause-whole
returns-in_err-add_tables-clause-whole g c = λ n holds corrupt.
    let q = err_from_is_err_and c.from_residual.result c.from_residual.ensures.1 in
    let none = sym c.sum_refusal.ensures ∙ c.in_default.is in
    let fault = refused_by_device g.D.Disk c.args.position n c.args.replica.now c.add_tables.new.replica c.in_err-add_tables.field-0.0 holds none c.in_err-add_tables.ensures.added in
    no_corruption (sym (q.1 ∙ ap Err (q.2 ∙ fault)) ∙ corrupt)

-- ---- each was given

pub returns-clause-sum : goal.returns-clause-sum
returns-clause-sum g c =
    let none = sym c.sum_refusal.ensures ∙ c.in_default.is in
    let a = c.args.replica.now in
    let uuid : c.uuid.result ≡ a.engine.checkpoint.base.uuid = c.uuid.ensures ∙ ap (λ (x : Gtid). x.uuid) c.gtid-cluster.ensures in
    let made = made_is _ _ c.in-Some-new.gtid (sym c.new.ensures ∙ c.in-Some-new.is) in
    let limit = subst (λ (x : Gtid). IsTrue (is_seqno x.seqno)) c.gtid-cluster.ensures c.seqno.ensures.limit in
    let seqno = to_z_pos w64 c.args.position (is_in_range (facts_of g.D.Disk a) c.args.position none limit) in
    let gtid : c.in-Some-new.gtid ≡ record { uuid = c.uuid.result; seqno = pos c.args.position } =
    made ∙ ap (λ (z : ℤ). record { uuid = c.uuid-2.result; seqno = z }) seqno ∙ ap (λ (u : List ℕ). record { uuid = u; seqno = pos c.args.position }) (c.uuid-2.ensures ∙ sym c.uuid.ensures) in
    let read = sum_read g.D.Disk c.args.position a c.add_tables.new.replica c.new-summing.result c.add_tables.new.self c.uuid.result c.in-Some-new.gtid c.digest.result uuid gtid c.new-summing.ensures.fed c.new-summing.ensures.rows c.in_ok-add_tables.ensures.added c.digest.ensures in
    sum_given g.D.Disk c.args.position a c.add_tables.new.replica (record { gtid = c.in-Some-new.gtid; rows = c.add_tables.new.self.rows; digest = c.digest.result }) none read

pub returns-clause-holds : goal.returns-clause-holds
returns-clause-holds g c = λ n holds fine.
    let adds = c.in_ok-add_tables.ensures.added in
    given_holds g.D.Disk c.args.position n c.args.replica.now c.add_tables.new.replica adds.rows adds.given holds

pub returns-clause-state : goal.returns-clause-state
returns-clause-state g c = λ n holds.
    let none = sym c.sum_refusal.ensures ∙ c.in_default.is in
    let sum : Sum = record { gtid = c.in-Some-new.gtid; rows = c.add_tables.new.self.rows; digest = c.digest.result } in
    sum_is g.D.Disk c.args.position n c.args.replica.now c.add_tables.new.replica sum holds none ((returns-clause-sum g c).sums none)

pub returns-clause-order : goal.returns-clause-order
returns-clause-order g c = λ n L holds is_of.
    let none = sym c.sum_refusal.ensures ∙ c.in_default.is in
    let sum : Sum = record { gtid = c.in-Some-new.gtid; rows = c.add_tables.new.self.rows; digest = c.digest.result } in
    sum_of_order g.D.Disk c.args.position n c.nodes_hold_the_order.ensures L c.args.replica.now c.add_tables.new.replica sum is_of holds none ((returns-clause-sum g c).sums none)
