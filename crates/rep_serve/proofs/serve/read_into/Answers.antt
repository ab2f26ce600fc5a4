use Rattle.std.proofs.Common.{rules, ◌≡◌, Some, None, Ok, Err, true, false, [], ◌∷◌, ◌++◌, refl}
use Rattle.std.proofs.lemmas.Result.{err_from_is_err_and}
use Rattle.rep_record.specs.Lines.{ahead}
use Rattle.rep_record.specs.Reading.{order_line}
use Rattle.rep_script.specs.Judging.{content}
use Rattle.rep_script.proofs.Noting.{line_read as serve_line, reading_stops, reading_ends}
use Rattle.rep_serve.proofs.Reading.{line_read, read_refused, read_all, read_more, read_faulty}
use Rattle.rep_serve.proofs.serve.read_into.Goals as goal

pub returns-in_err-next_line-clause-refused : goal.returns-in_err-next_line-clause-refused
returns-in_err-next_line-clause-refused g c =
    let left = g.R.Source.remaining in
    let p = err_from_is_err_and c.from_residual.result c.from_residual.ensures.1 in
    rw (p.1, p.2) (read_refused (ahead c.args.text.now (left c.args.reader.now)) (left c.lines.reader) (left c.next_line.new.reader) c.args.text.now c.lines.text c.next_line.new.self c.lines.items.items
    c.in_err-next_line.field-0.0 c.next_line.new.line.items c.lines.invariant.read (rw c.in_err-next_line.was at c.next_line.ensures.known))

pub returns-in_err-read_order_line-clause-refused :
    goal.returns-in_err-read_order_line-clause-refused
returns-in_err-read_order_line-clause-refused g c =
    let left = g.R.Source.remaining in
    let p = err_from_is_err_and c.from_residual-in_err-read_order_line.result c.from_residual-in_err-read_order_line.ensures.1 in
    let was : c.next_line.result ≡ Ok true = rw (← c.if-branch.true) c.in_ok-next_line.was in
    let counts = rw was at c.next_line.ensures.ok in
    let says : content order_line c.next_line.new.self.number c.next_line.new.line.items ≡ Some (Err c.in_err-read_order_line.field-0.0) = search rules in
    rw (p.1, p.2) (read_faulty (ahead c.args.text.now (left c.args.reader.now)) (left c.lines.reader) (left c.next_line.new.reader) c.args.text.now c.lines.text c.next_line.new.self c.lines.items.items
    c.in_err-read_order_line.field-0.0 c.next_line.new.line.items c.lines.invariant.read (rw was at c.next_line.ensures.known) counts.0 says)

pub lines-preserved-in_ok-push : goal.lines-preserved-in_ok-push
lines-preserved-in_ok-push g c =
    let left = g.R.Source.remaining in
    let was : c.next_line.result ≡ Ok true = rw (← c.if-branch.true) c.in_ok-next_line.was in
    let counts = rw was at c.next_line.ensures.ok in
    let says : content order_line c.next_line.new.self.number c.next_line.new.line.items ≡ Some (Ok c.in_ok-read_order_line.field-0) = search rules in
    let pushed : c.push.new.self.items ≡ c.lines.items.items ++ c.in_ok-read_order_line.field-0 ∷ [] = search rules in
    record {
      read = read_more (ahead c.args.text.now (left c.args.reader.now)) (left c.lines.reader) (left c.next_line.new.reader) c.args.text.now c.lines.text c.next_line.new.self c.lines.items.items c.push.new.self.items
          c.next_line.new.line.items c.lines.invariant.read (rw was at c.next_line.ensures.known) counts.0
          (λ later. rw pushed (line_read c.lines.items.items (content order_line c.next_line.new.self.number c.next_line.new.line.items) c.in_ok-read_order_line.field-0 later says));
      noted = serve_line _ _ _ _ _ _ true c.lines.invariant.noted (rw was at c.next_line.ensures.notes) (rw was at c.next_line.ensures.left);
    }

pub lines-preserved : goal.lines-preserved
lines-preserved g c =
    let left = g.R.Source.remaining in
    let was : c.next_line.result ≡ Ok true = rw (← c.if-branch.true) c.in_ok-next_line.was in
    let counts = rw was at c.next_line.ensures.ok in
    let says : content order_line c.next_line.new.self.number c.next_line.new.line.items ≡ None = search rules in
    record {
      read = read_more (ahead c.args.text.now (left c.args.reader.now)) (left c.lines.reader) (left c.next_line.new.reader) c.args.text.now c.lines.text c.next_line.new.self c.lines.items.items c.lines.items.items
          c.next_line.new.line.items c.lines.invariant.read (rw was at c.next_line.ensures.known) counts.0
          (λ later. rw says refl);
      noted = serve_line _ _ _ _ _ _ true c.lines.invariant.noted (rw was at c.next_line.ensures.notes) (rw was at c.next_line.ensures.left);
    }

pub returns-clause-read : goal.returns-clause-read
returns-clause-read g c =
    let left = g.R.Source.remaining in
    let was : c.next_line.result ≡ Ok false = rw (← c.if-branch.false) c.in_ok-next_line.was in
    read_all (ahead c.args.text.now (left c.args.reader.now)) (left c.lines.reader) (left c.next_line.new.reader) c.args.text.now c.lines.text c.next_line.new.self c.lines.items.items
    c.next_line.new.line.items c.lines.invariant.read (rw was at c.next_line.ensures.known)

-- ---- the note of the reader

pub returns-in_err-next_line-clause-notes : goal.returns-in_err-next_line-clause-notes
returns-in_err-next_line-clause-notes g c =
    let p = err_from_is_err_and c.from_residual.result c.from_residual.ensures.1 in
    rw (p.1, p.2) (reading_stops _ _ _ _ _ c.in_err-next_line.field-0.0 c.lines.invariant.noted (rw c.in_err-next_line.was at c.next_line.ensures.notes))

pub returns-in_err-read_order_line-clause-notes : goal.returns-in_err-read_order_line-clause-notes
returns-in_err-read_order_line-clause-notes g c =
    let was : c.next_line.result ≡ Ok true = rw (← c.if-branch.true) c.in_ok-next_line.was in
    let p = err_from_is_err_and c.from_residual-in_err-read_order_line.result c.from_residual-in_err-read_order_line.ensures.1 in
    rw (p.1, p.2) (reading_ends _ _ _ _ (Err c.in_err-read_order_line.field-0.0) (serve_line _ _ _ _ _ _ true c.lines.invariant.noted (rw was at c.next_line.ensures.notes) (rw was at c.next_line.ensures.left))
    (rw c.in_err-read_order_line.was at c.read_order_line.ensures.own))

pub returns-clause-notes : goal.returns-clause-notes
returns-clause-notes g c =
    let was : c.next_line.result ≡ Ok false = rw (← c.if-branch.false) c.in_ok-next_line.was in
    reading_ends _ _ _ _ (Ok tt) (serve_line _ _ _ _ _ _ false c.lines.invariant.noted (rw was at c.next_line.ensures.notes) (rw was at c.next_line.ensures.left)) tt
