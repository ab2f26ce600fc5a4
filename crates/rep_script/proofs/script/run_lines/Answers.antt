use Rattle.std.proofs.Common.{◌≡◌, Ok, Err, true, false}
use Rattle.std.proofs.lemmas.Result.{err_from_is_err_and}
use Rattle.rep_record.specs.Lines.{ahead}
use Rattle.rep_script.specs.Judging.{content}
use Rattle.rep_script.specs.Scripts.{disk_line, Does, RunsDiskLine}
use Rattle.rep_script.proofs.Noting.{line_goes, line_stops, answer_stops, text_ends}
use Rattle.rep_script.proofs.Scripting.{run_refused, run_all, run_more, run_line_ends, ran_on_disk, failed_on_disk}
use Rattle.rep_script.proofs.script.run_lines.Goals as goal

pub returns-in_err-next_line-clause-ends : goal.returns-in_err-next_line-clause-ends
returns-in_err-next_line-clause-ends g c =
    let left = g.R.Source.remaining in
    let p = err_from_is_err_and c.from_residual.result c.from_residual.ensures.1 in
    rw (p.1, p.2) (run_refused (Does g.D.Disk) disk_line (ahead c.args.text.now (left c.args.reader.now)) (left c.lines.reader)
    (left c.next_line.new.reader) c.args.text.now c.lines.text c.next_line.new.text c.args.replica.now c.lines.replica c.in_err-next_line.field-0.0 c.next_line.new.line.items
    c.lines.invariant.done (rw c.in_err-next_line.was at c.next_line.ensures.known))

pub lines-preserved : goal.lines-preserved
lines-preserved g c =
    let left = g.R.Source.remaining in
    let was : c.next_line.result ≡ Ok true = rw (← c.if-branch.true) c.in_ok-next_line.was in
    let counts = rw was at c.next_line.ensures.ok in
    let said = content disk_line c.next_line.new.text.number c.next_line.new.line.items in
    let runs : RunsDiskLine g.D.Disk c.lines.replica said (Ok tt) c.run_disk_line.new.replica =
    rw (← c.deref.ensures.0, ← c.number.ensures.number) (rw c.in_ok-run_disk_line.was at c.run_disk_line.ensures.runs) in
    record {
      done = run_more (Does g.D.Disk) disk_line (ahead c.args.text.now (left c.args.reader.now)) (left c.lines.reader)
          (left c.next_line.new.reader) c.args.text.now c.lines.text c.next_line.new.text c.args.replica.now c.lines.replica c.run_disk_line.new.replica c.next_line.new.line.items
          c.lines.invariant.done (rw was at c.next_line.ensures.known) counts.0
          (ran_on_disk g.D.Disk c.lines.replica c.run_disk_line.new.replica said runs);
      noted = line_goes _ _ _ _ _ _ _ _ _ true c.lines.invariant.noted (rw was at c.next_line.ensures.notes) (rw was at c.next_line.ensures.left);
    }

pub returns-in_err-run_disk_line-clause-ends : goal.returns-in_err-run_disk_line-clause-ends
returns-in_err-run_disk_line-clause-ends g c =
    let left = g.R.Source.remaining in
    let was : c.next_line.result ≡ Ok true = rw (← c.if-branch.true) c.in_ok-next_line.was in
    let counts = rw was at c.next_line.ensures.ok in
    let said = content disk_line c.next_line.new.text.number c.next_line.new.line.items in
    let runs : RunsDiskLine g.D.Disk c.lines.replica said (Err c.in_err-run_disk_line.field-0.0) c.run_disk_line.new.replica =
    rw (← c.deref.ensures.0, ← c.number.ensures.number) (rw c.in_err-run_disk_line.was at c.run_disk_line.ensures.runs) in
    let p = err_from_is_err_and c.from_residual-in_err-run_disk_line.result c.from_residual-in_err-run_disk_line.ensures.1 in
    rw (p.1, p.2) (run_line_ends (Does g.D.Disk) disk_line (ahead c.args.text.now (left c.args.reader.now)) (left c.lines.reader)
    (left c.next_line.new.reader) c.args.text.now c.lines.text c.next_line.new.text c.args.replica.now c.lines.replica c.run_disk_line.new.replica
    c.in_err-run_disk_line.field-0.0 c.next_line.new.line.items c.lines.invariant.done (rw was at c.next_line.ensures.known) counts.0
    (failed_on_disk g.D.Disk c.lines.replica c.run_disk_line.new.replica said c.in_err-run_disk_line.field-0.0 runs))

pub returns-clause-ends : goal.returns-clause-ends
returns-clause-ends g c =
    let left = g.R.Source.remaining in
    let was : c.next_line.result ≡ Ok false = rw (← c.if-branch.false) c.in_ok-next_line.was in
    run_all (Does g.D.Disk) disk_line (ahead c.args.text.now (left c.args.reader.now)) (left c.lines.reader)
    (left c.next_line.new.reader) c.args.text.now c.lines.text c.next_line.new.text c.args.replica.now c.lines.replica c.next_line.new.line.items c.lines.invariant.done
    (rw was at c.next_line.ensures.known)

-- ---- the notes of the streams

pub returns-in_err-next_line-clause-notes : goal.returns-in_err-next_line-clause-notes
returns-in_err-next_line-clause-notes g c =
    let p = err_from_is_err_and c.from_residual.result c.from_residual.ensures.1 in
    rw (p.1, p.2) (line_stops _ _ _ _ _ _ _ _ _ c.in_err-next_line.field-0.0 c.lines.invariant.noted (rw c.in_err-next_line.was at c.next_line.ensures.notes))

pub returns-in_err-run_disk_line-clause-notes : goal.returns-in_err-run_disk_line-clause-notes
returns-in_err-run_disk_line-clause-notes g c =
    let was : c.next_line.result ≡ Ok true = rw (← c.if-branch.true) c.in_ok-next_line.was in
    let p = err_from_is_err_and c.from_residual-in_err-run_disk_line.result c.from_residual-in_err-run_disk_line.ensures.1 in
    rw (p.1, p.2) (answer_stops _ _ _ _ _ _ _ _ _ c.in_err-run_disk_line.field-0.0 (line_goes _ _ _ _ _ _ _ _ _ true c.lines.invariant.noted (rw was at c.next_line.ensures.notes) (rw was at c.next_line.ensures.left)) (rw c.in_err-run_disk_line.was at c.run_disk_line.ensures.notes))

pub returns-clause-notes : goal.returns-clause-notes
returns-clause-notes g c =
    let was : c.next_line.result ≡ Ok false = rw (← c.if-branch.false) c.in_ok-next_line.was in
    text_ends _ _ _ _ _ _ _ tt (line_goes _ _ _ _ _ _ _ _ _ false c.lines.invariant.noted (rw was at c.next_line.ensures.notes) (rw was at c.next_line.ensures.left))
