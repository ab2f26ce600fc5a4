use Rattle.std.proofs.Common.{Result, sym, subst, ◌∙◌}
use Rattle.rep_types.specs.declared.refusal.Refusal.{Refusal}
use Rattle.rep_replica.specs.Replicas.{facts_of}
use Rattle.rep_replica.specs.Settling.{Works}
use Rattle.rep_replica.proofs.Settling.{not_refused, runs_on, due_step, err_not_ok, works_none, works_on, goes_on, ends_on, ok_of, is_running, Goes, rests_none, rests_then}
use Rattle.rep_replica.proofs.Committing.{keeps_then, rests_keep, refused_keeps}
use Rattle.rep_replica.proofs.replica.Replica.finish_checkpoint.Goals as goal

pub loop-event-init : goal.loop-event-init
loop-event-init g c = record {
  works = works_none g.D.Disk c.runs_are_joined.ensures c.args.self.now;
  running = c.requires.running;
  rests = λ rests. rests_none (facts_of g.D.Disk c.args.self.now) rests;
}

-- ---- a step

pub returns-then-is_err-clause-works : goal.returns-then-is_err-clause-works
returns-then-is_err-clause-works g c =
    works_on g.D.Disk c.loop-event.self c.step-answer.new.self c.step-answer.result c.outcome-ended.result c.outcome-ended.ensures c.runs_are_joined.ensures c.loop-event.invariant.running c.args.self.now
    c.in-Some.event (sym c.checkpoint_event.ensures ∙ c.in-Some.is) c.step-answer.ensures.step c.loop-event.invariant.works

pub returns-then-is_err-clause-early : goal.returns-then-is_err-clause-early
returns-then-is_err-clause-early g c =
    ends_on g.D.Disk c.loop-event.self c.step-answer.new.self c.step-answer.result c.outcome-ended.result c.outcome-ended.ensures c.loop-event.invariant.running
    (c.in-Some.event, sym c.checkpoint_event.ensures ∙ c.in-Some.is) c.step-answer.ensures.step

goes : (g : _) (c : goal.Else-is_err g) → Goes (facts_of g.D.Disk c.loop-event.self) (facts_of g.D.Disk c.step-answer.new.self)
goes g c =
    goes_on g.D.Disk c.loop-event.self c.step-answer.new.self c.step-answer.result c.outcome-ended.result c.outcome-ended.ensures c.loop-event.invariant.running
    (c.in-Some.event, sym c.checkpoint_event.ensures ∙ c.in-Some.is) c.step-answer.ensures.step c.if-is_err.ensures.value

pub loop-event-smaller : goal.loop-event-smaller
loop-event-smaller g c = (goes g c).less

pub loop-event-preserved : goal.loop-event-preserved
loop-event-preserved g c = record {
  works =
      subst (λ (r : Result (Unit {0}) Refusal). Works g.D.Disk c.args.self.now c.step-answer.new.self r) (ok_of c.outcome-ended.result c.if-is_err.ensures.value)
      (works_on g.D.Disk c.loop-event.self c.step-answer.new.self c.step-answer.result c.outcome-ended.result c.outcome-ended.ensures c.runs_are_joined.ensures c.loop-event.invariant.running c.args.self.now
      c.in-Some.event (sym c.checkpoint_event.ensures ∙ c.in-Some.is) c.step-answer.ensures.step c.loop-event.invariant.works);
  running = is_running g.D.Disk c.step-answer.new.self (goes g c).running;
  rests = λ rests.
      let so_far = c.loop-event.invariant.rests rests in
      rests_then (facts_of g.D.Disk c.args.self.now) (facts_of g.D.Disk c.loop-event.self) (facts_of g.D.Disk c.step-answer.new.self) so_far ((goes g c).rests so_far.phase);
}

-- ---- what stays of a log at rest

pub returns-then-is_err-clause-keeps : goal.returns-then-is_err-clause-keeps
returns-then-is_err-clause-keeps g c = λ rests.
    let first = facts_of g.D.Disk c.args.self.now in
    let s = facts_of g.D.Disk c.loop-event.self in
    let t = facts_of g.D.Disk c.step-answer.new.self in
    let waits = sym c.checkpoint_event.ensures ∙ c.in-Some.is in
    keeps_then first s t (rests_keep first s (c.loop-event.invariant.rests rests))
    (refused_keeps s t c.in-Some.event c.step-answer.result (not_refused s c.in-Some.event (runs_on g.D.Disk c.loop-event.self c.loop-event.invariant.running) (due_step s c.in-Some.event waits)) c.step-answer.ensures.step.moves
    (λ done. err_not_ok c.outcome-ended.result c.if-is_err.ensures.value (c.outcome-ended.ensures ∙ done)))

pub returns-clause-keeps : goal.returns-clause-keeps
returns-clause-keeps g c = λ rests. rests_keep (facts_of g.D.Disk c.args.self.now) (facts_of g.D.Disk c.loop-event.self) (c.loop-event.invariant.rests rests)
