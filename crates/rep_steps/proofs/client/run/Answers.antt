use Rattle.std.proofs.Common.{◌≡◌, ◌+◌, cond, [], ◌∷◌, ◌++◌, take, true, refl, subst, sym, ap, ◌∙◌, arith, List}
use Rattle.std.specs.Result.{is_ok}
use Rattle.std.specs.Vec.{vec_len}
use Rattle.std.proofs.lemmas.List.{take_more}
use Rattle.rep_steps.specs.declared.event.Event.{Event}
use Rattle.rep_steps.specs.declared.answer.Answer.{Answer}
use Rattle.rep_steps.specs.Moves.{Moves}
use Rattle.rep_steps.specs.Nodes.{Steps}
use Rattle.rep_steps.specs.Runs.{Runs}
use Rattle.rep_steps.specs.Images.{RunsOn}
use Rattle.rep_steps.proofs.Running.{runs_more}
use Rattle.rep_steps.proofs.Driving.{run_none, run_more}
use Rattle.rep_steps.proofs.client.run.Goals as goal

pub loop-event-init : goal.loop-event-init
loop-event-init g c =
    let core = c.args.core.now in
    let none = sym c.in_ok-answers.ensures.items in
    record {
      moves = subst (λ (answers : List Answer). Runs Moves (g.C.Core.facts core) [] answers (g.C.Core.facts core)) none refl;
      steps = λ n h. (
        n,
        subst (λ (answers : List Answer). RunsOn g.C.Core.means (g.C.Core.history core) (g.C.Core.history core) n [] answers n) none (run_none g.C.Core.means (g.C.Core.history core) n),
        h,
      );
      many = omega (arith, c.in_ok-answers.ensures.len);
      room = omega (arith, c.in_ok-answers.ensures.capacity);
    }

pub loop-event-preserved : goal.loop-event-preserved
loop-event-preserved g c =
    let i = c.loop-event.event-index in
    let first = c.args.core.now in
    let old = c.loop-event.core in
    let new = c.step-answer.new.self in
    let event = c.event-item.result in
    let answer = c.step-answer.result in
    let kept = c.loop-event.answers in
    let ok : is_ok c.push.result ≡ true = c.if-is_err.ensures.negation in
    let items : c.push.new.self.items ≡ kept.items ++ answer ∷ [] = c.push.ensures.items ∙ ap (λ b. cond b (kept.items ++ answer ∷ []) kept.items) ok in
    let many : vec_len c.push.new.self ≡ vec_len kept + 1 = c.push.ensures.len ∙ ap (λ b. cond b (vec_len kept + 1) (vec_len kept)) ok in
    let front : take (i + 1) c.args.events.now ≡ take i c.args.events.now ++ event ∷ [] =
    take_more c.args.events.now i event c.loop-event-test.true ∙ ap (λ e. take i c.args.events.now ++ e ∷ []) (sym c.event-item.is) in
    record {
      moves =
          let step = subst (λ (e : Event). Moves (g.C.Core.facts old) e answer (g.C.Core.facts new)) c.copied.ensures c.step-answer.ensures.moves in
          let run = runs_more Moves (g.C.Core.facts first) (g.C.Core.facts old) (g.C.Core.facts new) (take i c.args.events.now) kept.items event answer c.loop-event.invariant.moves step in
          rw (front, items) run;
      steps = λ n h.
          let before = c.loop-event.invariant.steps n h in
          let after = c.step-answer.ensures.steps before.0 before.2 in
          let step = subst (λ (e : Event). Steps before.0 e answer after.0) c.copied.ensures after.1 in
          let run =
          run_more (record { enough = c.state_is_enough.ensures; items = c.history_by_items.ensures }) c.fronts_are_determined.ensures g.C.Core.means (g.C.Core.history first) (g.C.Core.history old) (g.C.Core.history new) n before.0 after.0
          (take i c.args.events.now) kept.items event answer (g.met.C.Core.node n first h) (g.met.C.Core.node before.0 old before.2) before.1 step (c.step-answer.ensures.leaves before.0 before.2) in
          (after.0, rw (front, items) run, after.2);
      many = omega (arith, many, c.loop-event.invariant.many);
      room = omega (arith, c.push.ensures.capacity, c.loop-event.invariant.room);
    }
