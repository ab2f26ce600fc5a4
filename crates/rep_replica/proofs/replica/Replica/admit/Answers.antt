use Rattle.std.proofs.Common.{◌≡◌, ◌+◌, ◌∷◌, [], ◌++◌, length, arith, None, true, false, Result, Ok, Err, OnOk, refl, sym, ap, subst, ◌∙◌}
use Rattle.std.specs.Prelude.{◌||◌, is_some, IsErr}
use Rattle.std.specs.Result.{is_ok, is_err}
use Rattle.rep_types.specs.declared.limits.TheConstants.{MAX_AHEAD}
use Rattle.rep_types.specs.declared.judged.Judged.{Judged}
use Rattle.rep_cert.specs.Holdings.{verdict_of}
use Rattle.rep_steps.specs.Events.{delivery}
use Rattle.rep_steps.specs.declared.answer.Answer.{Answer}
use Rattle.rep_steps.specs.declared.answer.Answer.TheVariants.{Gave}
use Rattle.rep_steps.specs.Standings.{delivery_refusal}
use Rattle.rep_replica.specs.Replicas.{Replica, facts_of}
use Rattle.rep_replica.specs.Holding.{IsStep}
use Rattle.rep_replica.proofs.Keeping.{runs_inside}
use Rattle.rep_replica.proofs.Stepping.{refused_step}
use Rattle.rep_replica.proofs.Delivering.{running_refusal, not_full, replica_delivers, delivered_step, judged_by, judged_none, spelled_none}
use Rattle.rep_replica.proofs.replica.Replica.admit.Goals as goal

abbrev old : (g : _) (c : goal.Else-is_err g) → Replica g.row.D.Denot
old g c = record { engine = c.self.inside.engine; backlog = c.self.inside.backlog; certifier = c.self.inside.certifier; stopped = c.self.inside.stopped }

abbrev new : (g : _) (c : goal.Else-is_err g) → Replica g.row.D.Denot
new g c = record { engine = c.self.inside.engine; backlog = c.push.new.self; certifier = c.admit_item.new.self; stopped = c.self.inside.stopped }

abbrev item : (g : _) (c : goal.Else-is_err g) → Judged
item g c = record { seqno = c.in-Ok.seqno; item = c.args.item; verdict = c.in-Ok.verdict }

none : (g : _) (c : goal.Else-is_err g) → delivery_refusal (facts_of g.D.Disk (old g c)) c.args.seqno ≡ None
none g c = ap (λ (r : Replica g.row.D.Denot). delivery_refusal (facts_of g.D.Disk r) c.args.seqno) c.self.view_is ∙ sym c.delivery_refusal.ensures ∙ c.in_default.is

item_is : (g : _) (c : goal.Else-is_err g) → item g c ≡ record { seqno = c.self.inside.certifier.current.delivered + 1; item = c.args.item; verdict = verdict_of c.self.inside.certifier.current c.args.item }
item_is g c = ap (λ n. record { seqno = n; item = c.args.item; verdict = c.in-Ok.verdict }) c.in-Ok.ensures.seqno ∙ ap (λ v. record { seqno = c.self.inside.certifier.current.delivered + 1; item = c.args.item; verdict = v }) c.in-Ok.ensures.verdict

on_ok : {T E P : Type 0} (r : Result T E) → is_ok r ≡ true → OnOk r P → P
on_ok (Ok x) ok p = p
on_ok (Err e) ok p = absurd (let never : false ≡ true = ok in cc)

pushed : (g : _) (c : goal.Else-is_err g) → c.push.new.self ≡ c.self.inside.backlog ++ item g c ∷ []
pushed g c = on_ok c.push.result c.if-is_err.ensures.negation c.push.ensures.pushed

-- an item that is refused
pub returns-in-Some : goal.returns-in-Some
returns-in-Some g c =
    let r : Replica g.row.D.Denot = c.args.self.now in
    let runs : (facts_of g.D.Disk r).stopped ≡ false = ap (λ b. b || is_some r.engine.halted) c.requires.running.0 ∙ ap is_some c.requires.running.1 in
    let due = running_refusal (facts_of g.D.Disk r) c.args.seqno c.args.item runs ∙ sym c.delivery_refusal.ensures ∙ c.in-Some.is in
    record { step = refused_step g.D.Disk r (delivery c.args.seqno c.args.item) c.in-Some.refusal due (spelled_none g.D.Disk r r c.args.seqno c.args.item c.in-Some.refusal); judged = judged_none r.certifier.current c.args.seqno c.args.item c.in-Some.refusal }

-- the backlog has room for one that is not
is_an_err : {T E : Type 0} (r : Result T E) → true ≡ is_err r → IsErr r
is_an_err (Ok x) e = absurd (let never : true ≡ false = e in cc)
is_an_err (Err e) is = refl

pub unreachable-requires-then-is_err : goal.unreachable-requires-then-is_err
unreachable-requires-then-is_err g c =
    let r : Replica g.row.D.Denot = record { engine = c.self.inside.engine; backlog = c.self.inside.backlog; certifier = c.self.inside.certifier; stopped = c.self.inside.stopped } in
    let nothing : delivery_refusal (facts_of g.D.Disk r) c.args.seqno ≡ None =
    ap (λ (x : Replica g.row.D.Denot). delivery_refusal (facts_of g.D.Disk x) c.args.seqno) c.self.view_is ∙ sym c.delivery_refusal.ensures ∙ c.in_default.is in
    let full : length c.self.inside.backlog ≡ MAX_AHEAD = c.push.ensures.backlogged.0 (is_an_err c.push.result c.if-is_err.ensures.value) in
    absurd (omega (arith, full, not_full g.D.Disk r c.args.seqno nothing))

pub invariant_of-self : goal.invariant_of-self
invariant_of-self g c =
    let runs = runs_inside c.self.view_is c.requires.running in
    replica_delivers g.D.Disk (old g c) (new g c) c.args.seqno c.args.item (item g c) runs.0 runs.1 (none g c) c.self.invariant (item_is g c) c.in-Ok.ensures.admitted refl (pushed g c) refl c.judging_goes_on.ensures
    c.verdicts_have_a_place.ensures c.certifiers_hold_windows.ensures c.limits.ensures

pub returns : goal.returns
returns g c =
    let runs = runs_inside c.self.view_is c.requires.running in
    let step = delivered_step g.D.Disk (old g c) (new g c) c.args.seqno c.args.item (item g c) runs.0 runs.1 (none g c) c.self.invariant (item_is g c) c.in-Ok.ensures.admitted refl (pushed g c) refl c.judging_goes_on.ensures c.nodes_stay_nodes.ensures in
    record {
      step =
          subst (λ (r : Replica g.row.D.Denot). IsStep g.D.Disk r (delivery c.args.seqno c.args.item) (Gave c.in-Ok.verdict) (new g c)) c.self.view_is
          (subst (λ (a : Answer). IsStep g.D.Disk (old g c) (delivery c.args.seqno c.args.item) a (new g c)) (ap Gave (sym c.in-Ok.ensures.verdict)) step);
      judged = judged_by c.args.self.now.certifier.current c.args.seqno c.args.item c.in-Ok.verdict (c.in-Ok.ensures.verdict ∙ ap (λ (r : Replica g.row.D.Denot). verdict_of r.certifier.current c.args.item) c.self.view_is);
    }
