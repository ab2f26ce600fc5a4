use Rattle.std.proofs.Common.{◌≡◌, Some, Ok, Err, true, false, arith}
use Rattle.std.proofs.lemmas.Result.{err_from_is_err_and}
use Rattle.rep_types.specs.Order.{Order}
use Rattle.rep_cert.specs.Following.{Follows}
use Rattle.rep_record.specs.Lines.{ahead}
use Rattle.rep_record.specs.Reading.{order_line}
use Rattle.rep_script.specs.Judging.{JudgesNext, content}
use Rattle.rep_script.proofs.Noting.{goes_on, line_goes, line_stops, answer_stops, text_ends}
use Rattle.rep_script.proofs.Progress.{judged_none, judged_more, judged_all, judged_refused, judged_line_ends}
use Rattle.rep_script.proofs.judge.judge_lines.Goals as goal

pub returns-in_err-next_line-clause-judged : goal.returns-in_err-next_line-clause-judged
returns-in_err-next_line-clause-judged g c =
    let left = g.R.Source.remaining in
    let held = g.W.Sink.contents in
    let p = err_from_is_err_and c.from_residual.result c.from_residual.ensures.1 in
    rw (p.1, p.2) (λ idle. judged_refused (ahead c.args.text.now (left c.args.reader.now)) (left c.lines.reader) (left c.next_line.new.reader) c.args.text.now
    c.lines.text c.next_line.new.text c.args.certifier.current.setting c.lines.certifier.current c.in_err-next_line.field-0.0 c.next_line.new.line.items (held c.args.writer.now) (held c.lines.writer)
    (held c.next_line.new.writer) c.lines.waiting.bytes c.next_line.new.waiting.bytes (c.lines.invariant.judged idle) (rw c.in_err-next_line.was at c.next_line.ensures.known)
    c.next_line.ensures.cut (rw c.in_err-next_line.was at c.next_line.ensures.sent))

pub lines-init : goal.lines-init
lines-init g c = record {
  left = omega (arith, c.requires.delivered);
  judged = λ idle.
      judged_none (ahead c.args.text.now (g.R.Source.remaining c.args.reader.now)) (g.W.Sink.contents c.args.writer.now) c.args.text.now c.args.certifier.current c.args.waiting.now.bytes
      c.requires idle;
  noted = goes_on _ _ _;
}

pub judge_line-requires : goal.judge_line-requires
judge_line-requires g c =
    let was : c.next_line.result ≡ Ok true = rw (← c.if-branch.true) c.in_ok-next_line.was in
    let counts = rw was at c.next_line.ensures.ok in
    record { left = omega (arith, c.lines.invariant.left, counts.0, c.number.ensures.number); small = c.number.ensures.small }

pub lines-preserved : goal.lines-preserved
lines-preserved g c =
    let left = g.R.Source.remaining in
    let held = g.W.Sink.contents in
    let was : c.next_line.result ≡ Ok true = rw (← c.if-branch.true) c.in_ok-next_line.was in
    let counts = rw was at c.next_line.ensures.ok in
    let judges : (L : Order) → Follows c.lines.certifier.current L → JudgesNext c.lines.certifier.current L (content order_line c.next_line.new.text.number c.next_line.new.line.items) (Ok tt) c.judge_line.new.certifier.current (Some c.next_line.new.waiting.bytes) (Some c.judge_line.new.writer.bytes) =
    rw (← c.deref.ensures.0, ← c.number.ensures.number) (rw c.in_ok-judge_line.was at c.judge_line.ensures.judged) in
    record {
      left = omega (arith, c.judge_line.ensures.left, c.number.ensures.number);
      judged = λ idle. judged_more (ahead c.args.text.now (left c.args.reader.now)) (left c.lines.reader) (left c.next_line.new.reader) c.args.text.now c.lines.text c.next_line.new.text
          c.args.certifier.current.setting c.lines.certifier.current c.judge_line.new.certifier.current c.next_line.new.line.items (held c.args.writer.now) (held c.lines.writer) (held c.next_line.new.writer)
          c.lines.waiting.bytes c.next_line.new.waiting.bytes c.judge_line.new.writer.bytes (c.lines.invariant.judged idle) (rw was at c.next_line.ensures.known) counts.0
          (rw was at c.next_line.ensures.sent) judges;
      noted = line_goes _ _ _ _ _ _ _ _ _ true c.lines.invariant.noted (rw was at c.next_line.ensures.notes) (rw was at c.next_line.ensures.left);
    }

pub returns-in_err-judge_line-clause-judged : goal.returns-in_err-judge_line-clause-judged
returns-in_err-judge_line-clause-judged g c =
    let left = g.R.Source.remaining in
    let held = g.W.Sink.contents in
    let was : c.next_line.result ≡ Ok true = rw (← c.if-branch.true) c.in_ok-next_line.was in
    let counts = rw was at c.next_line.ensures.ok in
    let judges : (L : Order) → Follows c.lines.certifier.current L → JudgesNext c.lines.certifier.current L (content order_line c.next_line.new.text.number c.next_line.new.line.items) (Err c.in_err-judge_line.field-0.0) c.judge_line.new.certifier.current (Some c.next_line.new.waiting.bytes) (Some c.judge_line.new.writer.bytes) =
    rw (← c.deref.ensures.0, ← c.number.ensures.number) (rw c.in_err-judge_line.was at c.judge_line.ensures.judged) in
    let p = err_from_is_err_and c.from_residual-in_err-judge_line.result c.from_residual-in_err-judge_line.ensures.1 in
    rw (p.1, p.2) (λ idle. judged_line_ends (ahead c.args.text.now (left c.args.reader.now)) (left c.lines.reader) (left c.next_line.new.reader) c.args.text.now
    c.lines.text c.next_line.new.text c.args.certifier.current.setting c.lines.certifier.current c.judge_line.new.certifier.current c.in_err-judge_line.field-0.0 c.next_line.new.line.items (held c.args.writer.now)
    (held c.lines.writer) (held c.next_line.new.writer) c.lines.waiting.bytes c.next_line.new.waiting.bytes c.judge_line.new.writer.bytes (c.lines.invariant.judged idle)
    (rw was at c.next_line.ensures.known) counts.0 (rw was at c.next_line.ensures.sent) judges)

pub returns-clause-judged : goal.returns-clause-judged
returns-clause-judged g c idle =
    let left = g.R.Source.remaining in
    let held = g.W.Sink.contents in
    let was : c.next_line.result ≡ Ok false = rw (← c.if-branch.false) c.in_ok-next_line.was in
    judged_all (ahead c.args.text.now (left c.args.reader.now)) (left c.lines.reader) (left c.next_line.new.reader) c.args.text.now c.lines.text c.next_line.new.text
    c.args.certifier.current.setting c.lines.certifier.current c.next_line.new.line.items (held c.args.writer.now) (held c.lines.writer) (held c.next_line.new.writer)
    c.lines.waiting.bytes c.next_line.new.waiting.bytes (c.lines.invariant.judged idle) (rw was at c.next_line.ensures.known) (rw was at c.next_line.ensures.sent)

-- ---- the notes of the streams

pub returns-in_err-next_line-clause-notes : goal.returns-in_err-next_line-clause-notes
returns-in_err-next_line-clause-notes g c =
    let p = err_from_is_err_and c.from_residual.result c.from_residual.ensures.1 in
    rw (p.1, p.2) (line_stops _ _ _ _ _ _ _ _ _ c.in_err-next_line.field-0.0 c.lines.invariant.noted (rw c.in_err-next_line.was at c.next_line.ensures.notes))

pub returns-in_err-judge_line-clause-notes : goal.returns-in_err-judge_line-clause-notes
returns-in_err-judge_line-clause-notes g c =
    let was : c.next_line.result ≡ Ok true = rw (← c.if-branch.true) c.in_ok-next_line.was in
    let p = err_from_is_err_and c.from_residual-in_err-judge_line.result c.from_residual-in_err-judge_line.ensures.1 in
    rw (p.1, p.2) (answer_stops _ _ _ _ _ _ _ _ _ c.in_err-judge_line.field-0.0 (line_goes _ _ _ _ _ _ _ _ _ true c.lines.invariant.noted (rw was at c.next_line.ensures.notes) (rw was at c.next_line.ensures.left)) (rw c.in_err-judge_line.was at c.judge_line.ensures.notes))

pub returns-clause-notes : goal.returns-clause-notes
returns-clause-notes g c =
    let was : c.next_line.result ≡ Ok false = rw (← c.if-branch.false) c.in_ok-next_line.was in
    text_ends _ _ _ _ _ _ _ tt (line_goes _ _ _ _ _ _ _ _ _ false c.lines.invariant.noted (rw was at c.next_line.ensures.notes) (rw was at c.next_line.ensures.left))
