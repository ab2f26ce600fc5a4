use Rattle.std.proofs.Common.{◌≡◌, ◌∙◌, Some, None, List, ℕ, take, drop, sym, ap, arith, length-drop}
use Rattle.std.proofs.lemmas.List.{take_all, length-take}
use Rattle.rep_forms.proofs.RowBytes.{absent_found, absent_only, present_begins, present_found, present_only, part_fits}
use Rattle.rep_forms.proofs.row.is_row.Goals as goal
use Rattle.rep_forms.proofs.row.is_row.Goals.{then-bytes-ne1-via-then-bytes-ne1, then-bytes-ne1-via-else-bytes-ne1+then-size-gt-MAX_VALUE}

pub returns-then-bytes-eq0-clause-found : goal.returns-then-bytes-eq0-clause-found
returns-then-bytes-eq0-clause-found c = λ e. record {
  row = None;
  fits = record { short = tt; bytes = tt };
  spelled = absent_found c.args.bytes.now c.told-bytes (sym c.are_few_blank.ensures ∙ e);
}

pub returns-then-bytes-eq0-clause-only : goal.returns-then-bytes-eq0-clause-only
returns-then-bytes-eq0-clause-only c = λ row fits e. c.are_few_blank.ensures ∙ absent_only c.args.bytes.now row c.if-bytes-eq0.true e

pub returns-then-bytes-ne1-clause-only : goal.returns-then-bytes-ne1-clause-only
returns-then-bytes-ne1-clause-only c = λ row fits e.
    let begins = present_begins c.args.bytes.now row fits e c.if-bytes-eq0.false in
    absurd (elim c.then-bytes-ne1.branch [
      | then-bytes-ne1-via-then-bytes-ne1 w ↦ w.if-bytes-ne1.true begins.0
      | then-bytes-ne1-via-else-bytes-ne1+then-size-gt-MAX_VALUE w ↦ omega (arith, begins.1, c.from-size.ensures)
    ])

pub returns-clause-found : goal.returns-clause-found
returns-clause-found c = λ e.
    let whole : take 62 (drop 2 c.args.bytes.now) ≡ drop 2 c.args.bytes.now = take_all 62 (drop 2 c.args.bytes.now) (omega (arith, length-drop 2 c.args.bytes.now, c.told-bytes)) in
    let value : List ℕ = take c.from-size.result (drop 2 c.args.bytes.now) in
    let back : c.split_at.result.1.now ≡ drop c.from-size.result (drop 2 c.args.bytes.now) = c.split_at.ensures.back ∙ ap (λ (b : List ℕ). drop c.from-size.result b) whole in
    record {
      row = Some value;
      fits = record { short = omega (arith, length-take c.from-size.result (drop 2 c.args.bytes.now), c.if-size-gt-MAX_VALUE.false); bytes = part_fits c.from-size.result c.args.bytes.now c.fits-bytes };
      spelled = present_found c.args.bytes.now value c.split_at.result.1.now c.from-size.result c.told-bytes c.if-bytes-ne1.false c.from-size.ensures c.if-size-gt-MAX_VALUE.false (λ i. value) back (sym c.are_few_blank-2.ensures ∙ e);
    }

pub returns-clause-only : goal.returns-clause-only
returns-clause-only c = λ row fits e.
    let whole : take 62 (drop 2 c.args.bytes.now) ≡ drop 2 c.args.bytes.now = take_all 62 (drop 2 c.args.bytes.now) (omega (arith, length-drop 2 c.args.bytes.now, c.told-bytes)) in
    let back : c.split_at.result.1.now ≡ drop c.from-size.result (drop 2 c.args.bytes.now) = c.split_at.ensures.back ∙ ap (λ (b : List ℕ). drop c.from-size.result b) whole in
    c.are_few_blank-2.ensures ∙ present_only c.args.bytes.now c.split_at.result.1.now c.from-size.result row c.if-bytes-ne1.false c.from-size.ensures e back
