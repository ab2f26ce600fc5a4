use Rattle.std.proofs.Common.{Err, inr, ap, ◌∙◌}
use Rattle.rep_types.specs.declared.refusal.Refusal.TheVariants.{DiskFault}
use Rattle.rep_types.specs.declared.refusal.Refusal.{Refusal}
use Rattle.uses_catchup.proofs.CatchingUp.{is_joiner, is_served, err_is, ok_other}
use Rattle.uses_catchup.proofs.caught_up.Goals as goal

pub returns-in-Ok-clause-caught : goal.returns-in-Ok-clause-caught
returns-in-Ok-clause-caught g c = λ O n k may donor joiner.
    let given = c.in-Ok.ensures.given n donor in
    c.take.ensures.caught O n k c.have-have.result given.0
    (record { may = may; node = donor.node; joiner = is_joiner g.E.Disk O n k may c.args.joiner joiner c.have-have.result c.have-have.ensures.have; donated = given.1 })
    (c.bytes.ensures ∙ given.2) joiner

pub returns-in-Ok-clause-refused : goal.returns-in-Ok-clause-refused
returns-in-Ok-clause-refused g c = λ O n k may donor joiner.
    let given = c.in-Ok.ensures.given n donor in
    c.take.ensures.refused O n k c.have-have.result given.0
    (record { may = may; node = donor.node; joiner = is_joiner g.E.Disk O n k may c.args.joiner joiner c.have-have.result c.have-have.ensures.have; donated = given.1 })
    (c.bytes.ensures ∙ given.2) joiner

pub returns-in-Ok-clause-donor : goal.returns-in-Ok-clause-donor
returns-in-Ok-clause-donor g c = λ n donor other. c.give.ensures.donor n donor (ok_other c.in-Ok.field-0 DiskFault c.give.result c.in-Ok.is)

pub returns-in-Ok-clause-fault : goal.returns-in-Ok-clause-fault
returns-in-Ok-clause-fault g c = λ fault. inr (c.take.ensures.fault fault)

pub returns-clause-refused : goal.returns-clause-refused
returns-clause-refused g c = λ O n k may donor joiner.
    c.in-Err.ensures.refused n donor (is_served g.E.Disk O n k may c.args.joiner joiner g.D.Disk c.args.donor.now c.have-have.result c.have-have.ensures.have donor)

pub returns-clause-donor : goal.returns-clause-donor
returns-clause-donor g c = λ n donor other. c.give.ensures.donor n donor (λ fault. other (ap (λ (e : Refusal). Err e) (err_is c.in-Err.refusal DiskFault c.give.result c.in-Err.is fault)))
