use Rattle.std.proofs.Common.{◌∙◌, Ok, ap, sym, refl, inr, arith}
use Rattle.rep_lines.specs.Feeds.{ahead}
use Rattle.rep_requests.specs.Requests.{order_said}
use Rattle.rep_streams.proofs.Noted.{noted_ok}
use Rattle.rep_service.proofs.Blanks.{blank_none, blank_more, finds_position, finds_other, refused_so, noted_malformed}
use Rattle.rep_service.proofs.first.read_first.Goals as goal

pub loop-init : goal.loop-init
loop-init g c = record { failed = refl; blank = blank_none c.args.input.now.number (ahead c.args.input.now.feed (g.R.Source.remaining c.args.source.now)) (omega (arith, c.next_number.ensures.fits)) }

pub returns-in-Ok-Some-clause-finds : goal.returns-in-Ok-Some-clause-finds
returns-in-Ok-Some-clause-finds g c =
    let hands = rw c.in-Ok-true.field-0-test at c.in-Ok-true.ensures.hands in
    let rest = g.R.Source.remaining in
    finds_position c.args.input.now.number c.loop.input.number (ahead c.args.input.now.feed (rest c.args.source.now)) (ahead c.loop.input.feed (rest c.loop.source)) (ahead c.next_line.new.self.feed (rest c.next_line.new.source)) c.loop.invariant.blank
    c.next_line.new.self.feed (rest c.next_line.new.source) c.next_line.new.self.line.items c.next_line.new.self.number c.in-Ok-Some.gtid hands.1 hands.2
    (ap (order_said c.next_line.new.self.number) (sym c.as_slice.ensures.value) ∙ sym c.read_order.ensures ∙ c.in-Ok-Some.is ∙ ap Ok c.in-Ok-Some.field-0-is)

pub returns-in-Err-read_order-clause-finds : goal.returns-in-Err-read_order-clause-finds
returns-in-Err-read_order-clause-finds g c =
    let hands = rw c.in-Ok-true.field-0-test at c.in-Ok-true.ensures.hands in
    let rest = g.R.Source.remaining in
    finds_other c.args.input.now.number c.loop.input.number (ahead c.args.input.now.feed (rest c.args.source.now)) (ahead c.loop.input.feed (rest c.loop.source)) (ahead c.next_line.new.self.feed (rest c.next_line.new.source)) c.loop.invariant.blank
    c.next_line.new.self.feed (rest c.next_line.new.source) c.next_line.new.self.line.items c.next_line.new.self.number c.in-Err-read_order.refusal hands.1 hands.2
    (ap (order_said c.next_line.new.self.number) (sym c.as_slice.ensures.value) ∙ sym c.read_order.ensures ∙ c.in-Err-read_order.is)

pub returns-in-Err-read_order-clause-notes : goal.returns-in-Err-read_order-clause-notes
returns-in-Err-read_order-clause-notes g c =
    noted_malformed _ _ c.next_line.new.self.number c.in-Err-read_order.refusal (noted_ok _ _ _ c.in-Ok-true.ensures.notes ∙ c.loop.invariant.failed) (refused_so c.next_line.new.self.number c.as_slice.result.now c.in-Err-read_order.refusal (sym c.read_order.ensures ∙ c.in-Err-read_order.is))

pub returns-in-Err-read_order-clause-refused : goal.returns-in-Err-read_order-clause-refused
returns-in-Err-read_order-clause-refused g c = inr (inr (c.next_line.new.self.number, refused_so c.next_line.new.self.number c.as_slice.result.now c.in-Err-read_order.refusal (sym c.read_order.ensures ∙ c.in-Err-read_order.is)))

pub loop-preserved : goal.loop-preserved
loop-preserved g c =
    let hands = rw c.in-Ok-true.field-0-test at c.in-Ok-true.ensures.hands in
    let rest = g.R.Source.remaining in
    record {
      blank = blank_more c.args.input.now.number c.loop.input.number (ahead c.args.input.now.feed (rest c.args.source.now)) (ahead c.loop.input.feed (rest c.loop.source)) (ahead c.next_line.new.self.feed (rest c.next_line.new.source)) c.loop.invariant.blank
          c.next_line.new.self.line.items c.next_line.new.self.number hands.1 hands.2
          (ap (order_said c.next_line.new.self.number) (sym c.as_slice.ensures.value) ∙ sym c.read_order.ensures ∙ c.in-Ok-None.is ∙ ap Ok c.in-Ok-None.field-0-is);
      failed = noted_ok _ _ _ c.in-Ok-true.ensures.notes ∙ c.loop.invariant.failed;
    }
