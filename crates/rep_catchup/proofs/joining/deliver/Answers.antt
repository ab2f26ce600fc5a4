use Rattle.std.proofs.Common.{◌≡◌, ◌+◌, refl, rules, arith, subst, ◌∙◌, inl, inr}
use Rattle.rep_cert.specs.Holdings.{verdict_of}
use Rattle.rep_steps.specs.declared.event.Event.{Event}
use Rattle.rep_steps.specs.declared.answer.Answer.TheVariants.{Gave, Refused}
use Rattle.rep_steps.specs.Events.{delivery}
use Rattle.rep_steps.specs.Moves.{Moves}
use Rattle.rep_steps.specs.Standings.{delivered}
use Rattle.rep_replica.specs.Replicas.{facts_of}
use Rattle.rep_replica.specs.Holding.{IsStep, IsJudgedBy}
use Rattle.rep_catchup.proofs.JoinGrowing.{came, grown_none, delivered_judged, delivered_none, delivered_runs, delivery_answers, delivery_early, ends_running, is_stopped, judged_is, out_by_seqno, out_by_verdict}
use Rattle.rep_catchup.proofs.JoinTelling.{tells_malformed, gave_tells, delivery_told}
use Rattle.rep_catchup.proofs.joining.deliver.Goals as goal
use Rattle.rep_catchup.proofs.joining.deliver.Goals.{then-seqno-delivered-via-then-seqno-delivered, then-seqno-delivered-via-else-seqno-delivered+then-not-judges_so}

-- ---- an item that isn't the next one

pub returns-then-seqno-delivered-clause-grown : goal.returns-then-seqno-delivered-clause-grown
returns-then-seqno-delivered-clause-grown g c = grown_none c.history_by_items.ensures g.D.Disk c.runs_are_joined.ensures c.args.replica.now

pub returns-then-seqno-delivered-clause-refused : goal.returns-then-seqno-delivered-clause-refused
returns-then-seqno-delivered-clause-refused g c =
    elim c.then-seqno-delivered.branch [
      | then-seqno-delivered-via-then-seqno-delivered w ↦
          out_by_seqno g.D.Disk c.args.replica.now c.args.judged c.args.at c.delivered.result (c.delivered.ensures.facts c.requires.running.inside)
          (let other : c.args.judged.seqno ≡ c.delivered.result + 1 → ⊥ = search rules in other)
      | then-seqno-delivered-via-else-seqno-delivered+then-not-judges_so w ↦
          out_by_verdict g.D.Disk c.args.replica.now c.args.judged c.args.at
          (let other : verdict_of c.args.replica.now.certifier.current c.args.judged.item ≡ c.args.judged.verdict → ⊥ = search rules in other)
    ]

-- ---- one that was delivered

gave_moves : (g : _) (c : goal.In-Gave g) → Moves (facts_of g.D.Disk c.args.replica.now) (delivery c.args.judged.seqno c.args.judged.item) (Gave c.in-Gave.field-0) (facts_of g.D.Disk c.step.new.self)
gave_moves g c = subst (λ (e : Event). Moves (facts_of g.D.Disk c.args.replica.now) e (Gave c.in-Gave.field-0) (facts_of g.D.Disk c.step.new.self)) c.delivery.ensures c.in-Gave.ensures.step.moves

pub returns-in-Gave-clause-grown : goal.returns-in-Gave-clause-grown
returns-in-Gave-clause-grown g c =
    let same : verdict_of c.args.replica.now.certifier.current c.args.judged.item ≡ c.args.judged.verdict = search rules in
    let by : IsJudgedBy c.args.replica.now.certifier.current (delivery c.args.judged.seqno c.args.judged.item) (Gave c.in-Gave.field-0) =
    subst (λ (e : Event). IsJudgedBy c.args.replica.now.certifier.current e (Gave c.in-Gave.field-0)) c.delivery.ensures c.in-Gave.ensures.judged in
    let judged : c.in-Gave.field-0 ≡ c.args.judged.verdict = judged_is c.args.replica.now.certifier.current c.args.judged.seqno c.args.judged.item c.in-Gave.field-0 by ∙ same in
    let here = c.delivered.ensures.facts c.requires.running.inside in
    let next : c.args.judged.seqno ≡ delivered (facts_of g.D.Disk c.args.replica.now) + 1 = omega (arith, here) in
    delivered_judged c.history_by_items.ensures g.D.Disk c.runs_are_joined.ensures c.nodes_hold_the_order.ensures c.steps_follow_the_order.ensures c.args.replica.now c.step.new.self c.args.judged.seqno
    c.args.judged.item c.args.judged c.in-Gave.field-0 refl refl judged next
    (subst (λ (e : Event). IsStep g.D.Disk c.args.replica.now e (Gave c.in-Gave.field-0) c.step.new.self) c.delivery.ensures c.in-Gave.ensures.step)

pub returns-in-Gave-clause-ends : goal.returns-in-Gave-clause-ends
returns-in-Gave-clause-ends g c =
    delivered_runs c.history_by_items.ensures g.D.Disk c.runs_are_joined.ensures c.nodes_hold_the_order.ensures c.steps_follow_the_order.ensures c.args.replica.now c.step.new.self c.args.judged.seqno
    c.args.judged.item c.in-Gave.field-0 c.requires.running (gave_moves g c)

pub returns-in-Gave-clause-limit : goal.returns-in-Gave-clause-limit
returns-in-Gave-clause-limit g c =
    let here = c.delivered.ensures.facts c.requires.running.inside in
    let next : c.args.judged.seqno ≡ delivered (facts_of g.D.Disk c.args.replica.now) + 1 = omega (arith, here) in
    let one = came c.history_by_items.ensures g.D.Disk c.runs_are_joined.ensures c.nodes_hold_the_order.ensures c.steps_follow_the_order.ensures c.args.replica.now c.step.new.self c.args.judged.seqno
    c.args.judged.item c.in-Gave.field-0 (gave_moves g c) in
    omega (arith, one.count, next, c.requires.within)

-- ---- one that was refused

pub returns-in-Refused : goal.returns-in-Refused
returns-in-Refused g c =
    let step : IsStep g.D.Disk c.args.replica.now (delivery c.args.judged.seqno c.args.judged.item) (Refused c.in-Refused.refusal) c.step.new.self =
    subst (λ (e : Event). IsStep g.D.Disk c.args.replica.now e (Refused c.in-Refused.refusal) c.step.new.self) c.delivery.ensures c.in-Refused.ensures.step in
    let here = c.delivered.ensures.facts c.requires.running.inside in
    let next : c.args.judged.seqno ≡ delivered (facts_of g.D.Disk c.args.replica.now) + 1 = omega (arith, here) in
    let early =
    delivery_early (facts_of g.D.Disk c.args.replica.now) (facts_of g.D.Disk c.step.new.self) c.args.judged.seqno c.args.judged.item c.in-Refused.refusal (is_stopped g.D.Disk c.args.replica.now c.requires.running)
    c.requires.defined next c.requires.within c.requires.room step.moves in
    record {
      grown =
          delivered_none c.history_by_items.ensures g.D.Disk c.runs_are_joined.ensures c.nodes_hold_the_order.ensures c.steps_follow_the_order.ensures c.args.replica.now c.step.new.self c.args.judged.seqno
          c.args.judged.item c.in-Refused.refusal step;
      ends = ends_running c.history_by_items.ensures g.D.Disk c.step.new.self c.in-Refused.refusal early.1;
      tells =
          delivery_told g.D.Disk c.args.replica.now c.step.new.self c.args.judged.seqno c.args.judged.item c.in-Refused.refusal (is_stopped g.D.Disk c.args.replica.now c.requires.running)
          c.requires.defined next c.requires.within c.requires.room step.moves;
      limit = tt;
      refused = inl early.0;
    }

-- ---- there is no other answer

pub unreachable-requires : goal.unreachable-requires
unreachable-requires g c =
    absurd (elim (delivery_answers (facts_of g.D.Disk c.args.replica.now) (facts_of g.D.Disk c.step.new.self) c.args.judged.seqno c.args.judged.item c.step.result
    (subst (λ (e : Event). Moves (facts_of g.D.Disk c.args.replica.now) e c.step.result (facts_of g.D.Disk c.step.new.self)) c.delivery.ensures c.step.ensures.step.moves)) [
      | inl gave ↦ c.in_default.not-Gave gave.0 gave.1
      | inr refused ↦ c.in_default.not-Refused refused.0 refused.1
    ])

-- ---- what is told of the device

pub returns-then-seqno-delivered-clause-tells : goal.returns-then-seqno-delivered-clause-tells
returns-then-seqno-delivered-clause-tells g c = tells_malformed g.D.Disk c.args.replica.now c.args.at

pub returns-in-Gave-clause-tells : goal.returns-in-Gave-clause-tells
returns-in-Gave-clause-tells g c =
    gave_tells (facts_of g.D.Disk c.args.replica.now) (facts_of g.D.Disk c.step.new.self) c.args.judged.seqno c.args.judged.item c.in-Gave.field-0 (gave_moves g c)
