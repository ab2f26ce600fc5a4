use Rattle.std.proofs.Common.{◌≡◌, ◌-◌, ◌+◌, ◌<◌, ◌≤◌, ◌==◌, length, sym, ap, ◌∙◌, arith}
use Rattle.std.specs.List.{slice_split}
use Rattle.rep_saved.specs.Lines.{said}
use Rattle.rep_saved.specs.Saved.{saved_in, rest_of, sayings, found_with}
use Rattle.rep_saved.proofs.Sayings.{first_line, told_more, told_bad, told_last, told_last_bad}
use Rattle.rep_saved.proofs.saved.SavedState.parse.Goals as goal

pub returns-in-None-clause-value : goal.returns-in-None-clause-value
returns-in-None-clause-value c =
    told_bad (length c.args.text.now) (length c.args.text.now - length c.loop-line.rest.now) c.loop-line.found c.loop-line.rest.now c.in-Some.line.now c.in-Some.behind.now (saved_in c.args.text.now) c.in-Some.ensures
    (ap (found_with c.loop-line.found) (sym (c.read_line.ensures.value ∙ ap said c.without_return.ensures)) ∙ sym c.with.ensures.value ∙ c.in-None.is) c.loop-line.invariant.told

pub loop-line-smaller : goal.loop-line-smaller
loop-line-smaller c =
    let first = first_line c.loop-line.rest.now c.in-Some.line.now c.in-Some.behind.now c.in-Some.ensures in
    let size : length c.loop-line.rest.now ≡ length c.in-Some.line.now + 1 + length c.in-Some.behind.now = first.size in
    let less : length c.in-Some.behind.now < length c.loop-line.rest.now = omega (arith, size) in
    less

pub loop-line-preserved : goal.loop-line-preserved
loop-line-preserved c =
    let first = first_line c.loop-line.rest.now c.in-Some.line.now c.in-Some.behind.now c.in-Some.ensures in
    let size : length c.loop-line.rest.now ≡ length c.in-Some.line.now + 1 + length c.in-Some.behind.now = first.size in
    let inside : length c.loop-line.rest.now ≤ length c.args.text.now = c.loop-line.invariant.inside in
    let at : length c.args.text.now - length c.loop-line.rest.now + length c.in-Some.line.now + 1 ≡ length c.args.text.now - length c.in-Some.behind.now = omega (arith, size, inside) in
    record {
      told = told_more (length c.args.text.now) (length c.args.text.now - length c.loop-line.rest.now) c.loop-line.found c.in-Some-with.more c.loop-line.rest.now c.in-Some.line.now c.in-Some.behind.now
          (saved_in c.args.text.now) c.in-Some.ensures
          (ap (found_with c.loop-line.found) (sym (c.read_line.ensures.value ∙ ap said c.without_return.ensures)) ∙ sym c.with.ensures.value ∙ c.in-Some-with.is) c.loop-line.invariant.told
          ∙ ap (λ k. rest_of (length c.args.text.now) c.in-Some-with.more (sayings k (slice_split (λ b. b == 10) c.in-Some.behind.now))) at;
      inside = omega (arith, size, inside);
      limit = c.in-Some-with.ensures.limit;
    }

pub returns-in-Some-with-2-clause-value : goal.returns-in-Some-with-2-clause-value
returns-in-Some-with-2-clause-value c =
    c.whole.ensures.value ∙ told_last (length c.args.text.now) (length c.args.text.now - length c.loop-line.rest.now) c.loop-line.found c.in-Some-with-2.all c.loop-line.rest.now (saved_in c.args.text.now) c.in_default.ensures
    (ap (found_with c.loop-line.found) (sym c.read_line-2.ensures.value) ∙ sym c.with-2.ensures.value ∙ c.in-Some-with-2.is) c.loop-line.invariant.told

pub returns-in-None-with-clause-value : goal.returns-in-None-with-clause-value
returns-in-None-with-clause-value c =
    told_last_bad (length c.args.text.now) (length c.args.text.now - length c.loop-line.rest.now) c.loop-line.found c.loop-line.rest.now (saved_in c.args.text.now) c.in_default.ensures
    (ap (found_with c.loop-line.found) (sym c.read_line-2.ensures.value) ∙ sym c.with-2.ensures.value ∙ c.in-None-with.is) c.loop-line.invariant.told
