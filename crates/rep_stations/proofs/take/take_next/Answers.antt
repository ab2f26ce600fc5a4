use Rattle.std.proofs.Common.{Result, Ok, Err, IfOk, arith}
use Rattle.rep_types.specs.declared.refusal.Refusal.{Refusal}
use Rattle.rep_stations.proofs.Takes.{more_taken}
use Rattle.rep_stations.proofs.take.take_next.Goals as goal

-- what two facts of a result come to
both_ok : {T : Type 0} (r : Result T Refusal) (P Q R S : T → Type 0) → IfOk r P → IfOk r Q → IfOk r R → ((x : T) → P x → Q x → R x → S x) → IfOk r S
both_ok (Ok x) P Q R S p q r to = to x p q r
both_ok (Err e) P Q R S p q r to = tt

pub returns-clause-taken : goal.returns-clause-taken
returns-clause-taken g c =
    let old = c.args.engine.now in
    let waits = c.args.backlog.now in
    both_ok c.accept.result _ _ _ _ c.accept.ensures.count c.accept.ensures.facts c.accept.ensures.holds (λ count is facts holds first certifier items taken legal.
    let within = c.accepted_items_are_a_front.ensures.within old.log.phase old.block waits in
    more_taken g.D.Disk c.judging_goes_on.ensures first certifier items old taken c.accept.new.self waits count (omega (arith, is, within)) facts holds legal)
