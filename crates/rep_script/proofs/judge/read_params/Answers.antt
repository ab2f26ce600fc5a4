use Rattle.std.proofs.Common.{◌≡◌, ◌∙◌, sym, Ok, Err, true, false, ◌+◌}
use Rattle.std.proofs.lemmas.Result.{err_from_is_err_and}
use Rattle.rep_types.specs.declared.refusal.Refusal.TheVariants.{Malformed}
use Rattle.rep_record.specs.Words.{is_blank}
use Rattle.rep_record.specs.Lines.{ahead}
use Rattle.rep_record.specs.Reading.{order_line, params_line}
use Rattle.rep_script.specs.ScriptLines.{script_line}
use Rattle.rep_script.proofs.Noting.{line_read, reading_stops, reading_ends}
use Rattle.rep_script.proofs.Stepping.{both_refused, both_missing, params_blank, both_found}
use Rattle.rep_script.proofs.judge.read_params.Goals as goal

pub returns-in_err-next_line-clause-read : goal.returns-in_err-next_line-clause-read
returns-in_err-next_line-clause-read g c =
    let left = g.R.Source.remaining in
    let p = err_from_is_err_and c.from_residual.result c.from_residual.ensures.1 in
    rw (p.1, p.2) (both_refused (ahead c.args.text.now (left c.args.reader.now)) (left c.lines.reader) (left c.next_line.new.reader) c.args.text.now c.lines.text
    c.next_line.new.self c.in_err-next_line.field-0.0 c.next_line.new.line.items c.lines.invariant.said (rw c.in_err-next_line.was at c.next_line.ensures.known))

pub returns-then-not-is_blank-clause-read : goal.returns-then-not-is_blank-clause-read
returns-then-not-is_blank-clause-read g c =
    let left = g.R.Source.remaining in
    let was : c.next_line.result ≡ Ok true = rw (← c.if-branch.true) c.in_ok-next_line.was in
    let known = rw was at c.next_line.ensures.known in
    let counts = rw was at c.next_line.ensures.ok in
    let filled : is_blank c.next_line.new.line.items ≡ false = rw (← c.deref.ensures.0) (sym c.is_blank.ensures.value ∙ c.if-not-is_blank.true) in
    let read : c.read_params_line.result ≡ params_line c.next_line.new.self.number c.next_line.new.line.items =
    rw (← c.deref-then-not-is_blank.ensures.0, ← c.number.ensures.number) c.read_params_line.ensures.exact in
    both_found (ahead c.args.text.now (left c.args.reader.now)) (left c.lines.reader) (left c.next_line.new.reader) c.args.text.now c.lines.text c.next_line.new.self
    c.next_line.new.line.items c.read_params_line.result c.lines.invariant.said known counts.0 filled read

pub lines-preserved : goal.lines-preserved
lines-preserved g c =
    let left = g.R.Source.remaining in
    let was : c.next_line.result ≡ Ok true = rw (← c.if-branch.true) c.in_ok-next_line.was in
    let known = rw was at c.next_line.ensures.known in
    let counts = rw was at c.next_line.ensures.ok in
    let blank : is_blank c.next_line.new.line.items ≡ true = rw (← c.deref.ensures.0) (sym c.is_blank.ensures.value ∙ c.if-not-is_blank.false) in
    let start = ahead c.args.text.now (left c.args.reader.now) in
    record {
      said = (
        params_blank order_line start (left c.lines.reader) (left c.next_line.new.reader) c.args.text.now c.lines.text c.next_line.new.self c.next_line.new.line.items c.lines.invariant.said.0 known counts.0 blank,
        params_blank script_line start (left c.lines.reader) (left c.next_line.new.reader) c.args.text.now c.lines.text c.next_line.new.self c.next_line.new.line.items c.lines.invariant.said.1 known counts.0 blank,
      );
      noted = line_read _ _ _ _ _ _ true c.lines.invariant.noted (rw was at c.next_line.ensures.notes) (rw was at c.next_line.ensures.left);
    }

pub returns-clause-read : goal.returns-clause-read
returns-clause-read g c =
    let left = g.R.Source.remaining in
    let was : c.next_line.result ≡ Ok false = rw (← c.if-branch.false) c.in_ok-next_line.was in
    let known = rw was at c.next_line.ensures.known in
    let counts = rw was at c.next_line.ensures.ok in
    both_missing (ahead c.args.text.now (left c.args.reader.now)) (left c.lines.reader) (left c.next_line.new.reader) c.args.text.now c.lines.text c.next_line.new.self
    c.next_line.new.line.items c.number-2.result c.lines.invariant.said known counts.0 c.number-2.ensures.number

-- ---- the note of the reader

pub returns-in_err-next_line-clause-notes : goal.returns-in_err-next_line-clause-notes
returns-in_err-next_line-clause-notes g c =
    let p = err_from_is_err_and c.from_residual.result c.from_residual.ensures.1 in
    rw (p.1, p.2) (reading_stops _ _ _ _ _ c.in_err-next_line.field-0.0 c.lines.invariant.noted (rw c.in_err-next_line.was at c.next_line.ensures.notes))

pub returns-then-not-is_blank-clause-notes : goal.returns-then-not-is_blank-clause-notes
returns-then-not-is_blank-clause-notes g c =
    let was : c.next_line.result ≡ Ok true = rw (← c.if-branch.true) c.in_ok-next_line.was in
    reading_ends _ _ _ _ c.read_params_line.result (line_read _ _ _ _ _ _ true c.lines.invariant.noted (rw was at c.next_line.ensures.notes) (rw was at c.next_line.ensures.left)) c.read_params_line.ensures.own

pub returns-clause-notes : goal.returns-clause-notes
returns-clause-notes g c =
    let was : c.next_line.result ≡ Ok false = rw (← c.if-branch.false) c.in_ok-next_line.was in
    reading_ends _ _ _ _ (Err (Malformed (c.number-2.result + 1))) (line_read _ _ _ _ _ _ false c.lines.invariant.noted (rw was at c.next_line.ensures.notes) (rw was at c.next_line.ensures.left)) (λ is. absurd cc)
