use Rattle.std.proofs.Common.{rules, ◌≡◌, ℕ, ◌+◌, ◌<◌, [], ◌∷◌, ◌++◌, arith, sym, ◌∙◌, subst}
use Rattle.std.proofs.lemmas.Grind.{common_steps}
use Rattle.std.specs.Prelude.{slice_get, Some}
use Rattle.rep_node.specs.declared.batch.Receipt.{Receipt}
use Rattle.rep_node.specs.Batches.{AreLetOn}
use Rattle.rep_node.proofs.Batching.{AtPlace, at_next, at_refused, every_append, full, item_at}
use Rattle.rep_node.proofs.node.Node.work.Goals as goal

pub returns-in-Err : goal.returns-in-Err
returns-in-Err g c = let inv = c.loop-place.invariant in let ready = c.requires.ready in let place : ℕ = c.loop-place.place in let to = inv.2 in let drew = c.in-Err.ensures.drawn.1 in
    let below : place < c.args.job.now.to = omega arith in let most = ready.range.1 in
    let at : slice_get c.args.items.now place ≡ Some c.index-items-place.result = item_at c.args.items.now place c.index-items-place.result (omega arith) c.index-items-place.is in record {
      worked = record {
        lock = c.submit.ensures.lock ∙ inv.0;
        range = (inv.1, inv.2);
        kept = λ alone. c.submit.ensures.kept alone ∙ inv.5 alone;
        runs = λ none. absurd (subst full none tt);
        paced = inv.6;
        went = Rattle.rep_ordered.specs.GoingLaws.went_on c.args.job.now.seat.view c.loop-place.job.seat.view c.submit.new.seat.view inv.8.went drew.went;
        passed = c.submit.ensures.passed inv.8.passed;
        part = at_refused g.D.Disk c.args.items.now c.args.job.now.from place c.args.job.now.to c.in-Err.ensures.drawn.0 c.index-items-place.result c.args.job.now.seat.view c.loop-place.job.seat.view c.submit.new.seat.view c.loop-place.job.receipts.items inv.8
            (let n = inv.8.all.count in omega arith) below at drew c.submit.ensures.joined;
        all = λ none. absurd (subst full none tt);
        stopped = c.in-Err.ensures.stopped;
      };
    }

pub loop-place-preserved : goal.loop-place-preserved
loop-place-preserved g c = let inv = c.loop-place.invariant in let ready = c.requires.ready in let place : ℕ = c.loop-place.place in let to = inv.2 in let drew = c.in-Ok.ensures.drawn.1 in let number = c.in-Ok.ensures.drawn.2 in
    let below : place < c.args.job.now.to = omega arith in let most = ready.range.1 in
    let at : slice_get c.args.items.now place ≡ Some c.index-items-place.result = item_at c.args.items.now place c.index-items-place.result (omega arith) c.index-items-place.is in
    let r : Receipt = record { index = place; seqno = c.in-Ok.seqno; verdict = c.in-Ok.verdict } in
    let items : c.push_reserved.new.self.items ≡ c.loop-place.job.receipts.items ++ r ∷ [] = search rules in (
      c.submit.ensures.lock ∙ inv.0,
      inv.1,
      inv.2,
      inv.3,
      c.push_reserved.ensures.capacity ∙ inv.4,
      λ alone. c.submit.ensures.kept alone ∙ inv.5 alone,
      subst (AreLetOn (g.P.Pace.lets c.args.pace.now)) (sym items) (every_append _ c.loop-place.job.receipts.items (r ∷ []) inv.6 (c.in-Ok.ensures.paced, tt)),
      λ _. c.in-Ok.ensures.runs,
      subst (AtPlace g.D.Disk c.args.items.now c.args.job.now.from (place + 1) c.args.job.now.seat.view c.submit.new.seat.view) (sym items)
          (at_next g.D.Disk c.args.items.now c.args.job.now.from place c.in-Ok.seqno c.in-Ok.verdict c.index-items-place.result c.args.job.now.seat.view c.loop-place.job.seat.view c.submit.new.seat.view c.loop-place.job.receipts.items inv.8
          (let n = inv.8.all.count in omega arith) at (subst (λ n. Rattle.rep_node.specs.Seats.DrewOne g.D.Disk n c.loop-place.job.seat.view c.submit.new.seat.view) (sym number) drew) c.submit.ensures.passed c.in-Ok.ensures.receipt),
    )

pub returns : goal.returns
returns g c = grind (arith, common_steps)
