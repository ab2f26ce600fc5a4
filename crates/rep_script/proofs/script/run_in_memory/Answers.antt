use Rattle.std.proofs.Common.{◌≡◌, ◌+◌, ◌++◌, IfSome, Option, None, Some, Result, Ok, Err, true, false, ap, ◌∙◌}
use Rattle.std.proofs.lemmas.Result.{err_from_is_err_and}
use Rattle.rep_types.specs.declared.refusal.Refusal.{Refusal}
use Rattle.rep_disk.specs.declared.memory.Loss.{Loss}
use Rattle.rep_record.specs.Lines.{NextLine, ahead, IsTooLong}
use Rattle.rep_script.specs.ScriptLines.{script_line}
use Rattle.rep_script.specs.Judging.{content}
use Rattle.rep_script.specs.Scripts.{Stops, RunsLine}
use Rattle.rep_script.proofs.Noting.{GoesOn, line_goes, line_stops, answer_stops, own_stops, text_ends}
use Rattle.rep_script.proofs.Scripting.{memory, DoesInMemory, run_refused, run_all, run_more, run_line_ends, ran_in_memory, failed_in_memory, stop_ran, ends_in_memory, stop_fails_in_memory, unwritten_in_memory}
use Rattle.rep_script.proofs.script.run_in_memory.Goals as goal
use Rattle.rep_script.proofs.script.run_in_memory.Goals.{After-run_line}

-- ---- the line that was handed out

handed : (g : _) (c : After-run_line g) → c.next_line.result ≡ Ok true
handed g c = c.in-Ok-true.is ∙ ap Ok c.in-Ok-true.field-0-test

-- it is the next one
next : (g : _) (c : After-run_line g) → IfSome (g.R.Source.remaining c.lines.reader) (λ known.
    NextLine (c.lines.text.pending ++ known) c.lines.text (Ok true) c.next_line.new.text (g.R.Source.remaining c.next_line.new.reader) c.next_line.new.line.items)
next g c = rw (handed g c) at c.next_line.ensures.known

numbered : (g : _) (c : After-run_line g) → c.next_line.new.text.number ≡ c.lines.text.number + 1
numbered g c = (rw (handed g c) at c.next_line.ensures.ok).0

-- what it did to the replica
did : (g : _) (c : After-run_line g) (result : Result (Option Loss) Refusal) → c.run_line.result ≡ result
    → RunsLine memory c.lines.replica (content script_line c.next_line.new.text.number c.next_line.new.line.items) result c.run_line.new.replica
did g c result is = rw (← c.deref.ensures.0, ← c.number.ensures.number) (rw is at c.run_line.ensures.runs)

-- what the last line noted
passed : (g : _) (c : After-run_line g) → GoesOn (IsTooLong c.args.text.now (g.R.Source.remaining c.args.reader.now)) (IsTooLong c.next_line.new.text (g.R.Source.remaining c.next_line.new.reader))
    (g.R.Source.failed c.args.reader.now) (g.R.Source.failed c.next_line.new.reader) (g.W.Sink.failed c.args.writer.now) (g.W.Sink.failed c.next_line.new.writer)
passed g c = line_goes _ _ _ _ _ _ _ _ _ true c.lines.invariant.noted (rw (handed g c) at c.next_line.ensures.notes) (rw (handed g c) at c.next_line.ensures.left)

pub returns-in-Err-clause-ends : goal.returns-in-Err-clause-ends
returns-in-Err-clause-ends g c p on =
    let left = g.R.Source.remaining in
    let start = ahead c.args.text.now (left c.args.reader.now) in
    ends_in_memory p start c.args.text.now c.args.replica c.lines.replica c.let_go-in-Err.result (Err c.in-Err.refusal) c.let_go-in-Err.ensures on
    (run_refused DoesInMemory script_line start (left c.lines.reader) (left c.next_line.new.reader) c.args.text.now c.lines.text c.next_line.new.text c.args.replica c.lines.replica
    c.in-Err.refusal c.next_line.new.line.items c.lines.invariant.done (rw c.in-Err.is at c.next_line.ensures.known))

pub returns-in-Err-run_line-clause-ends : goal.returns-in-Err-run_line-clause-ends
returns-in-Err-run_line-clause-ends g c p on =
    let left = g.R.Source.remaining in
    let line = (goal.at.returns-in-Err-run_line-clause-ends g c).After-run_line in
    let said = content script_line c.next_line.new.text.number c.next_line.new.line.items in
    let runs = did g line (Err c.in-Err-run_line.refusal) c.in-Err-run_line.is in
    let start = ahead c.args.text.now (left c.args.reader.now) in
    ends_in_memory p start c.args.text.now c.args.replica c.run_line.new.replica c.let_go-in-Err-run_line.result (Err c.in-Err-run_line.refusal) c.let_go-in-Err-run_line.ensures on
    (run_line_ends DoesInMemory script_line start (left c.lines.reader) (left c.next_line.new.reader) c.args.text.now c.lines.text c.next_line.new.text c.args.replica c.lines.replica
    c.run_line.new.replica c.in-Err-run_line.refusal c.next_line.new.line.items c.lines.invariant.done (next g line) (numbered g line)
    (failed_in_memory memory c.lines.replica c.run_line.new.replica said c.in-Err-run_line.refusal runs))

pub returns-in_err-replica-in-Ok-Some-clause-ends : goal.returns-in_err-replica-in-Ok-Some-clause-ends
returns-in_err-replica-in-Ok-Some-clause-ends g c p on =
    let left = g.R.Source.remaining in
    let line = (goal.at.returns-in_err-replica-in-Ok-Some-clause-ends g c).After-run_line in
    let runs = did g line (Ok (Some c.in-Ok-Some.loss)) (c.in-Ok-Some.is ∙ ap Ok c.in-Ok-Some.field-0-is) in
    let refusal = c.in_err-replica-in-Ok-Some.field-0.0 in
    let stops : Stops memory c.in-Ok-Some.loss c.run_line.new.replica (Err refusal) =
    rw c.in_err-replica-in-Ok-Some.was at c.stopped_and_opened.ensures.stops in
    let q = err_from_is_err_and c.from_residual.result c.from_residual.ensures.1 in
    stop_fails_in_memory p (ahead c.args.text.now (left c.args.reader.now)) (left c.lines.reader) (left c.next_line.new.reader) c.args.text.now c.lines.text c.next_line.new.text
    c.args.replica c.lines.replica c.run_line.new.replica c.in-Ok-Some.loss c.from_residual.result refusal c.next_line.new.line.items (q.1 ∙ ap Err q.2) on
    c.lines.invariant.done (next g line) (numbered g line) runs stops

pub lines-preserved : goal.lines-preserved
lines-preserved g c =
    let left = g.R.Source.remaining in
    let line = (goal.at.lines-preserved g c).After-run_line in
    let said = content script_line c.next_line.new.text.number c.next_line.new.line.items in
    let runs = did g line (Ok (Some c.in-Ok-Some.loss)) (c.in-Ok-Some.is ∙ ap Ok c.in-Ok-Some.field-0-is) in
    let stops : Stops memory c.in-Ok-Some.loss c.run_line.new.replica (Ok c.in_ok-replica-in-Ok-Some.replica) =
    rw c.in_ok-replica-in-Ok-Some.was at c.stopped_and_opened.ensures.stops in
    record {
      done = run_more DoesInMemory script_line (ahead c.args.text.now (left c.args.reader.now)) (left c.lines.reader) (left c.next_line.new.reader) c.args.text.now c.lines.text c.next_line.new.text
          c.args.replica c.lines.replica c.in_ok-replica-in-Ok-Some.replica c.next_line.new.line.items c.lines.invariant.done (next g line) (numbered g line)
          (stop_ran memory c.lines.replica c.run_line.new.replica c.in_ok-replica-in-Ok-Some.replica said c.in-Ok-Some.loss runs stops);
      noted = passed g line;
    }

pub returns-in-Err-write_open-clause-ends : goal.returns-in-Err-write_open-clause-ends
returns-in-Err-write_open-clause-ends g c p on =
    unwritten_in_memory p (ahead c.args.text.now (g.R.Source.remaining c.args.reader.now)) c.args.text.now c.let_go-in-Err-write_open.result c.in-Err-write_open.refusal
    c.let_go-in-Err-write_open.ensures (rw c.in-Err-write_open.is at c.write_open.ensures.refused)

pub lines-preserved-in-Ok-None : goal.lines-preserved-in-Ok-None
lines-preserved-in-Ok-None g c =
    let left = g.R.Source.remaining in
    let line = (goal.at.lines-preserved-in-Ok-None g c).After-run_line in
    let said = content script_line c.next_line.new.text.number c.next_line.new.line.items in
    let runs = did g line (Ok None) (c.in-Ok-None.is ∙ ap Ok c.in-Ok-None.field-0-is) in
    record {
      done = run_more DoesInMemory script_line (ahead c.args.text.now (left c.args.reader.now)) (left c.lines.reader) (left c.next_line.new.reader) c.args.text.now c.lines.text c.next_line.new.text
          c.args.replica c.lines.replica c.run_line.new.replica c.next_line.new.line.items c.lines.invariant.done (next g line) (numbered g line)
          (ran_in_memory memory c.lines.replica c.run_line.new.replica said runs);
      noted = passed g line;
    }

pub returns-in-Ok-false-clause-ends : goal.returns-in-Ok-false-clause-ends
returns-in-Ok-false-clause-ends g c p on =
    let left = g.R.Source.remaining in
    let was : c.next_line.result ≡ Ok false = c.in-Ok-false.is ∙ ap Ok c.in-Ok-false.field-0-test in
    let start = ahead c.args.text.now (left c.args.reader.now) in
    ends_in_memory p start c.args.text.now c.args.replica c.lines.replica c.let_go.result (Ok tt) c.let_go.ensures on
    (run_all DoesInMemory script_line start (left c.lines.reader) (left c.next_line.new.reader) c.args.text.now c.lines.text c.next_line.new.text c.args.replica c.lines.replica
    c.next_line.new.line.items c.lines.invariant.done (rw was at c.next_line.ensures.known))

-- ---- the notes of the streams

pub returns-in-Err-clause-notes : goal.returns-in-Err-clause-notes
returns-in-Err-clause-notes g c =
    rw c.let_go-in-Err.ensures (line_stops _ _ _ _ _ _ _ _ _ c.in-Err.refusal c.lines.invariant.noted (rw c.in-Err.is at c.next_line.ensures.notes))

pub returns-in-Err-run_line-clause-notes : goal.returns-in-Err-run_line-clause-notes
returns-in-Err-run_line-clause-notes g c =
    let line = (goal.at.returns-in-Err-run_line-clause-notes g c).After-run_line in
    rw c.let_go-in-Err-run_line.ensures (answer_stops _ _ _ _ _ _ _ _ _ c.in-Err-run_line.refusal (passed g line) (rw c.in-Err-run_line.is at c.run_line.ensures.notes))

pub returns-in-Err-write_open-clause-notes : goal.returns-in-Err-write_open-clause-notes
returns-in-Err-write_open-clause-notes g c =
    let line = (goal.at.returns-in-Err-write_open-clause-notes g c).After-run_line in
    rw c.let_go-in-Err-write_open.ensures (answer_stops _ _ _ _ _ _ _ _ _ c.in-Err-write_open.refusal (passed g line) (rw c.in-Err-write_open.is at c.write_open.ensures.notes))

pub returns-in_err-replica-in-Ok-Some-clause-notes : goal.returns-in_err-replica-in-Ok-Some-clause-notes
returns-in_err-replica-in-Ok-Some-clause-notes g c =
    let line = (goal.at.returns-in_err-replica-in-Ok-Some-clause-notes g c).After-run_line in
    let p = err_from_is_err_and c.from_residual.result c.from_residual.ensures.1 in
    rw (p.1, p.2) (own_stops _ _ _ _ _ _ _ c.in_err-replica-in-Ok-Some.field-0.0 (passed g line) (rw c.in_err-replica-in-Ok-Some.was at c.stopped_and_opened.ensures.own))

pub returns-in-Ok-false-clause-notes : goal.returns-in-Ok-false-clause-notes
returns-in-Ok-false-clause-notes g c =
    let was : c.next_line.result ≡ Ok false = c.in-Ok-false.is ∙ ap Ok c.in-Ok-false.field-0-test in
    rw c.let_go.ensures (text_ends _ _ _ _ _ _ _ tt (line_goes _ _ _ _ _ _ _ _ _ false c.lines.invariant.noted (rw was at c.next_line.ensures.notes) (rw was at c.next_line.ensures.left)))
