use Rattle.std.proofs.Common.{◌∙◌, ◌+◌, ap, refl, None, Ok, Err, Bool, Option}
use Rattle.rep_types.specs.declared.item.Item.{Item}
use Rattle.rep_types.specs.declared.refusal.Refusal.TheVariants.{Exhausted}
use Rattle.rep_streams.proofs.Noted.{noted_ok}
use Rattle.rep_service.proofs.Noting.{still_done, still_own, by_writer, by_source}
use Rattle.rep_lines.specs.Feeds.{ahead}
use Rattle.rep_requests.specs.Requests.{requested, said_of}
use Rattle.rep_service.proofs.Reaching.{reaching_none, reaching_more, reaches_item, reaches_end, misses_more, misses_kept, misses_as, is_item, is_answered}
use Rattle.rep_service.proofs.Items.{ended_item}
use Rattle.rep_service.proofs.Saying.{own_by}
use Rattle.rep_service.proofs.Own.{own_next, own_answer}
use Rattle.rep_service.proofs.Lives.{did}
use Rattle.rep_service.proofs.past.next_item.Goals as goal

-- ---- the text

pub loop-init : goal.loop-init
loop-init g c = record {
  so = reaching_none g.D.Disk c.parts_are_joined.ensures (c.args.position + 1) c.args.replica.now (ahead c.args.input.now.feed (g.R.Source.remaining c.args.source.now)) _;
  told = c.requires.told;
  source = refl;
  writer = refl;
}

pub returns-in-Ok-false-clause-reaches : goal.returns-in-Ok-false-clause-reaches
returns-in-Ok-false-clause-reaches g c =
    let hands = rw c.in-Ok-false.field-0-test at c.in-Ok-false.ensures.hands in
    reaches_end g.D.Disk c.parts_are_joined.ensures (c.args.position + 1) c.args.replica.now c.loop.replica _ _ _ _ _ c.loop.invariant.so _ _ hands.0 hands.1 hands.2

pub returns-in-Err-clause-reaches : goal.returns-in-Err-clause-reaches
returns-in-Err-clause-reaches g c = misses_kept g.D.Disk c.parts_are_joined.ensures (c.args.position + 1) c.args.replica.now c.loop.replica _ _ _ _ _ c.loop.invariant.so c.in-Err.refusal (own_by c.in-Err.refusal (own_next c.in-Err.refusal c.in-Err.ensures.refused)) c.in-Err.ensures.hands.0

pub returns-in-Ok-Some-clause-reaches : goal.returns-in-Ok-Some-clause-reaches
returns-in-Ok-Some-clause-reaches g c =
    let hands = rw c.in-Ok-true.field-0-test at c.in-Ok-true.ensures.hands in
    let line = c.next_line.new.self.line.items in
    let number = c.next_line.new.self.number in
    let request = said_of c.read_request-request.result in
    let done = did g.D.Disk c.parts_are_joined.ensures c.going_is_joined.ensures request c.loop.replica c.answer.new.replica _ _ _ _ (Ok tt) c.in-Ok-Some.ensures.does in
    let is = is_item (c.args.position + 1) number line c.as_slice.result.now request c.answer.result c.as_slice.ensures.value c.read_request-request.ensures c.answer.ensures.comes c.in-Ok-Some.item (c.in-Ok-Some.is ∙ ap Ok c.in-Ok-Some.field-0-is) in
    reaches_item g.D.Disk c.parts_are_joined.ensures (c.args.position + 1) c.args.replica.now c.loop.replica _ _ _ _ _ c.loop.invariant.so c.answer.new.replica _ number line request (c.read_request-request.ensures ∙ ap (requested number) c.as_slice.ensures.value) hands.1 c.loop.invariant.told done _ _ c.in-Ok-Some.item is

pub loop-preserved : goal.loop-preserved
loop-preserved g c =
    let hands = rw c.in-Ok-true.field-0-test at c.in-Ok-true.ensures.hands in
    let line = c.next_line.new.self.line.items in
    let number = c.next_line.new.self.number in
    let request = said_of c.read_request-request.result in
    let done = did g.D.Disk c.parts_are_joined.ensures c.going_is_joined.ensures request c.loop.replica c.answer.new.replica _ _ _ _ (Ok tt) c.in-Ok-None.ensures.does in
    let is = is_answered (c.args.position + 1) number line c.as_slice.result.now request c.answer.result c.as_slice.ensures.value c.read_request-request.ensures c.answer.ensures.comes (c.in-Ok-None.is ∙ ap Ok c.in-Ok-None.field-0-is) in
    record {
      so = reaching_more g.D.Disk c.parts_are_joined.ensures (c.args.position + 1) c.args.replica.now c.loop.replica _ _ _ _ _ c.loop.invariant.so c.answer.new.replica _ number line request (c.read_request-request.ensures ∙ ap (requested number) c.as_slice.ensures.value) hands.1 c.loop.invariant.told done is;
      told = c.in-Ok-None.ensures.ahead c.loop.invariant.told;
      source = noted_ok _ _ _ c.in-Ok-true.ensures.notes ∙ c.loop.invariant.source;
      writer = noted_ok _ _ _ c.in-Ok-None.ensures.notes ∙ c.loop.invariant.writer;
    }

pub returns-in-Err-answer-clause-reaches : goal.returns-in-Err-answer-clause-reaches
returns-in-Err-answer-clause-reaches g c =
    let hands = rw c.in-Ok-true.field-0-test at c.in-Ok-true.ensures.hands in
    let line = c.next_line.new.self.line.items in
    let number = c.next_line.new.self.number in
    let request = said_of c.read_request-request.result in
    let done = did g.D.Disk c.parts_are_joined.ensures c.going_is_joined.ensures request c.loop.replica c.answer.new.replica _ _ _ _ (Err c.in-Err-answer.refusal) c.in-Err-answer.ensures.does in
    let says = c.read_request-request.ensures ∙ ap (requested number) c.as_slice.ensures.value in
    let other = ended_item (c.args.position + 1) number line request c.answer.result c.in-Err-answer.refusal says c.answer.ensures.comes c.in-Err-answer.is in
    misses_more g.D.Disk c.parts_are_joined.ensures (c.args.position + 1) c.args.replica.now c.loop.replica _ _ _ _ _ c.loop.invariant.so c.answer.new.replica _ number line request c.in-Err-answer.refusal (own_by c.in-Err-answer.refusal (own_answer (c.args.position + 1) number request c.answer.result c.in-Err-answer.refusal c.answer.ensures.comes c.in-Err-answer.is)) says other hands.1 c.loop.invariant.told done

pub returns-clause-reaches : goal.returns-clause-reaches
returns-clause-reaches g c = misses_as g.D.Disk c.parts_are_joined.ensures (c.args.position + 1) c.args.replica.now c.loop.replica _ _ None _ _ c.loop.invariant.so Exhausted (λ is. cc)

-- ---- the streams

pub returns-in-Ok-false-clause-notes : goal.returns-in-Ok-false-clause-notes
returns-in-Ok-false-clause-notes g c = still_done _ _ _ _ _ (noted_ok _ _ _ c.in-Ok-false.ensures.notes ∙ c.loop.invariant.source) c.loop.invariant.writer

pub returns-in-Err-clause-notes : goal.returns-in-Err-clause-notes
returns-in-Err-clause-notes g c = by_source Bool (Option Item) _ _ _ _ _ c.in-Err.refusal c.loop.invariant.source c.loop.invariant.writer c.in-Err.ensures.notes

pub returns-in-Ok-Some-clause-notes : goal.returns-in-Ok-Some-clause-notes
returns-in-Ok-Some-clause-notes g c = still_done _ _ _ _ _ (noted_ok _ _ _ c.in-Ok-true.ensures.notes ∙ c.loop.invariant.source) (noted_ok _ _ _ c.in-Ok-Some.ensures.notes ∙ c.loop.invariant.writer)

pub returns-in-Err-answer-clause-notes : goal.returns-in-Err-answer-clause-notes
returns-in-Err-answer-clause-notes g c = by_writer (Option Item) (Option Item) _ _ _ _ _ c.in-Err-answer.refusal (noted_ok _ _ _ c.in-Ok-true.ensures.notes ∙ c.loop.invariant.source) c.loop.invariant.writer c.in-Err-answer.ensures.notes

pub returns-clause-notes : goal.returns-clause-notes
returns-clause-notes g c = still_own _ _ _ _ Exhausted c.loop.invariant.source c.loop.invariant.writer (λ is. cc)
