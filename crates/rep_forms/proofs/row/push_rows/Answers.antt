use Rattle.std.proofs.Common.{◌≡◌, ◌∙◌, ℕ, List, [], ◌∷◌, ◌++◌, eqb, length, take, sym, ap, arith, length-append, true}
use Rattle.std.specs.List.{flat_map}
use Rattle.std.proofs.lemmas.Bool.Decides.{nat_tests}
use Rattle.std.proofs.lemmas.List.{append-nil, take_at}
use Rattle.rep_types.proofs.Lists.{empty_by_length}
use Rattle.rep_forms.specs.FormLaws.{many_is_form, all_more}
use Rattle.rep_forms.specs.Forms.{many}
use Rattle.rep_forms.specs.Rows.{RowFits, row_bytes, row_form}
use Rattle.rep_forms.specs.RowLaws.{row_is_form, row_size}
use Rattle.rep_forms.proofs.Chains.{told}
use Rattle.rep_forms.proofs.RowBytes.{rows_more, next_row}
use Rattle.rep_forms.proofs.row.push_rows.Goals as goal

pub returns-in_default : goal.returns-in_default
returns-in_default g c = record {
  found = λ e. absurd cc;
  only = λ xs h e.
      let next = next_row c.args.bytes.now c.loop.rest.now c.loop.rows.items xs c.loop.invariant.fits c.loop.invariant.there h.each e (omega (arith, h.size, c.loop.invariant.size, c.loop-test.true)) in
      absurd (omega (arith, c.in_default.ensures.cases, ap length next.there, length-append (row_bytes next.value) next.rest, row_size next.value next.fits));
}

pub returns-then-not-push_row : goal.returns-then-not-push_row
returns-then-not-push_row g c = record {
  found = λ e. absurd cc;
  only = λ xs h e.
      let next = next_row c.args.bytes.now c.loop.rest.now c.loop.rows.items xs c.loop.invariant.fits c.loop.invariant.there h.each e (omega (arith, h.size, c.loop.invariant.size, c.loop-test.true)) in
      let front : c.in-Some.row.now ≡ row_bytes next.value = c.in-Some.ensures.cases.0 ∙ ap (λ (b : List ℕ). take 64 b) next.there ∙ take_at (row_bytes next.value) next.rest 64 (row_size next.value next.fits) in
      let one : c.push_row.result ≡ true = c.push_row.ensures.only next.value next.fits front in
      absurd cc;
}

pub loop-preserved : goal.loop-preserved
loop-preserved g c =
    let p = c.push_row.ensures.found c.if-not-push_row.false in
    record {
      fits = rw p.rows (all_more RowFits c.loop.rows.items p.row c.loop.invariant.fits p.fits);
      size = omega (arith, ap length p.rows, length-append c.loop.rows.items (p.row ∷ []), c.loop.invariant.size);
      there = rw p.rows (rows_more c.args.bytes.now c.loop.rest.now c.in-Some.row.now c.in-Some.behind.now c.loop.rows.items p.row c.loop.invariant.there c.in-Some.ensures.cases.0 c.in-Some.ensures.cases.1 p.spelled);
    }

pub returns : goal.returns
returns g c =
    let few : (many g.row.N g.row.N row_form).Fits c.loop.rows.items = record { size = omega arith; few = omega arith; each = c.loop.invariant.fits } in
    record {
      found = λ e.
          let none : length c.loop.rest.now ≡ 0 = grind (arith, nat_tests) in
          (few, c.loop.invariant.there ∙ ap (λ (b : List ℕ). flat_map row_bytes c.loop.rows.items ++ b) (empty_by_length c.loop.rest.now none) ∙ append-nil (flat_map row_bytes c.loop.rows.items));
      only = λ xs h e.
          let apart = told (many g.row.N g.row.N row_form) (many_is_form g.row.N g.row.N row_form row_is_form) c.loop.rows.items xs c.loop.rest.now [] few h (sym c.loop.invariant.there ∙ e ∙ sym (append-nil (flat_map row_bytes xs))) in
          (c.is_empty.ensures ∙ ap (λ (b : List ℕ). eqb (length b) 0) apart.1, apart.0);
    }
