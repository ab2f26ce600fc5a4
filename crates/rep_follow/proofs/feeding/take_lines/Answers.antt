use Rattle.std.proofs.Common.{◌∙◌, ◌+◌, ◌^◌, ◌≤◌, List, [], ◌∷◌, ℕ, sym, ap, subst, refl, arith, Bool, length, length-append}
use Rattle.rep_requests.specs.Requests.{requested}
use Rattle.rep_follow.specs.Taking.{item_at}
use Rattle.rep_follow.specs.Counting.{tally, risen_by}
use Rattle.rep_follow.proofs.Feeds.{Taken, taken_none, taken_more, taken_other, taken_last, taken_refused}
use Rattle.rep_streams.proofs.Noted.{noted_ok}
use Rattle.rep_follow.proofs.Noting.{noted_err}
use Rattle.rep_follow.proofs.feeding.take_lines.Goals as goal

pub whole-init : goal.whole-init
whole-init g c = record { failed = refl; taken = taken_none g.D.Disk c.args.replica.now c.args.counts.now c.args.feed.now (g.W.Sink.contents c.args.writer.now) c.args.next.now c.limits.ensures }

pub returns-in-Err : goal.returns-in-Err
returns-in-Err g c =
    let held = g.W.Sink.contents in
    let at = ap (λ l. item_at c.whole.next (requested 0 l)) (sym c.deref.ensures.0) ∙ c.is_next.ensures.some c.if-not-is_next.false in
    record {
      takes = taken_refused g.D.Disk c.args.next.now c.args.replica.now c.whole.replica c.take.new.replica c.args.counts.now c.whole.counts c.take.new.counts c.args.feed.now c.whole.feed c.next_whole.new.self c.next_whole.new.line.items
          (held c.args.writer.now) (held c.whole.writer) (held c.take.new.writer) c.whole.next c.whole.invariant.taken (c.next_whole.ensures.ahead c.whole-test.true) c.is_next.new.item c.in-Err.refusal at c.in-Err.ensures.refused c.in-Err.ensures.goes;
      notes = noted_err (Unit {0}) Bool (g.W.Sink.failed c.args.writer.now) (g.W.Sink.failed c.whole.writer) (g.W.Sink.failed c.take.new.writer) c.in-Err.refusal c.whole.invariant.failed c.in-Err.ensures.notes;
    }

pub whole-preserved : goal.whole-preserved
whole-preserved g c =
    let held = g.W.Sink.contents in
    let at = ap (λ l. item_at c.whole.next (requested 0 l)) (sym c.deref.ensures.0) ∙ c.is_next.ensures.some c.if-not-is_next.false in
    let said = ap (requested 0) (c.deref-in-whole.ensures.0 ∙ sym c.deref.ensures.0) ∙ c.is_next.ensures.published c.if-not-is_next.false in
    let text = c.count_text.ensures c.whole.next said ∙ ap (λ (l : List ℕ). risen_by c.take.new.counts (tally [] (l ∷ []) [] 0 0)) c.deref-in-whole.ensures.0 in
    record {
      taken = subst (Taken g.D.Disk c.args.next.now c.args.replica.now c.take.new.replica c.args.counts.now c.count_text.new.self c.args.feed.now c.next_whole.new.self (held c.args.writer.now) (held c.take.new.writer)) (sym c.in-Some.ensures.1)
          (taken_more g.D.Disk c.args.next.now c.args.replica.now c.whole.replica c.take.new.replica c.args.counts.now c.whole.counts c.count_text.new.self c.args.feed.now c.whole.feed c.next_whole.new.self c.next_whole.new.line.items
          (held c.args.writer.now) (held c.whole.writer) (held c.take.new.writer) c.whole.next c.whole.invariant.taken (c.next_whole.ensures.ahead c.whole-test.true) c.is_next.new.item c.take.new.counts c.in_default-take.field-0 at c.in_default-take.ensures.goes text);
      failed = noted_ok _ _ _ c.in_default-take.ensures.notes ∙ c.whole.invariant.failed;
    }

pub returns-in_default-clause-takes : goal.returns-in_default-clause-takes
returns-in_default-clause-takes g c =
    let held = g.W.Sink.contents in
    let at = ap (λ l. item_at c.whole.next (requested 0 l)) (sym c.deref.ensures.0) ∙ c.is_next.ensures.some c.if-not-is_next.false in
    let last : 2 ^ 64 ≤ c.whole.next + 1 = let least = c.in_default.ensures in omega arith in
    taken_last g.D.Disk c.args.next.now c.args.replica.now c.whole.replica c.whole.replica c.args.counts.now c.whole.counts c.whole.counts c.args.feed.now c.whole.feed c.next_whole.new.self c.next_whole.new.line.items
    (held c.args.writer.now) (held c.whole.writer) (held c.whole.writer) c.whole.next c.whole.invariant.taken (c.next_whole.ensures.ahead c.whole-test.true) c.is_next.new.item at last

pub returns-then-not-is_next-clause-takes : goal.returns-then-not-is_next-clause-takes
returns-then-not-is_next-clause-takes g c =
    let held = g.W.Sink.contents in
    let other = ap (λ l. item_at c.whole.next (requested 0 l)) (sym c.deref.ensures.0) ∙ c.is_next.ensures.none c.if-not-is_next.true in
    taken_other g.D.Disk c.args.next.now c.args.replica.now c.whole.replica c.whole.replica c.args.counts.now c.whole.counts c.whole.counts c.args.feed.now c.whole.feed c.next_whole.new.self c.next_whole.new.line.items
    (held c.args.writer.now) (held c.whole.writer) (held c.whole.writer) c.whole.next c.whole.invariant.taken (c.next_whole.ensures.ahead c.whole-test.true) other

pub whole-smaller : goal.whole-smaller
whole-smaller g c =
    let handed = (c.next_whole.ensures.handed c.whole-test.true).0 in
    omega (arith, ap length handed, length-append c.next_whole.new.line.items (10 ∷ c.next_whole.new.self))
