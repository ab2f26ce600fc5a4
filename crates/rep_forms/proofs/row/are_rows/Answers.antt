use Rattle.std.proofs.Common.{◌≡◌, ◌∙◌, ℕ, List, [], ◌∷◌, ◌++◌, None, eqb, length, take, sym, ap, arith, length-append, true}
use Rattle.std.specs.List.{flat_map}
use Rattle.std.proofs.lemmas.Bool.Decides.{nat_tests}
use Rattle.std.proofs.lemmas.List.{append-nil, take_at}
use Rattle.rep_types.proofs.Lists.{empty_by_length}
use Rattle.rep_forms.specs.FormLaws.{many_is_form, all_more}
use Rattle.rep_forms.specs.Forms.{many}
use Rattle.rep_forms.specs.Rows.{RowFits, row_bytes, row_form}
use Rattle.rep_forms.specs.RowLaws.{row_is_form, row_size}
use Rattle.rep_forms.proofs.Chains.{told}
use Rattle.rep_forms.proofs.RowBytes.{rows_more, next_row, absent_row, absent_begins, absent_more}
use Rattle.rep_forms.proofs.row.are_rows.Goals as goal
use Rattle.rep_forms.proofs.row.are_rows.Goals.{else-present-index-via-then-present-index+else-row-ne0, else-present-index-via-else-present-index}

pub returns-in_default : goal.returns-in_default
returns-in_default g c = (
  λ e. absurd cc,
  λ a.
      let h = c.loop-index.invariant in
      let next = next_row c.args.bytes.now c.loop-index.rest.now h.0 a.rows h.1 h.3 a.fits a.spelled (omega (arith, a.size, h.2, c.loop-index-test.true)) in
      absurd (omega (arith, c.in_default.ensures.cases, ap length next.there, length-append (row_bytes next.value) next.rest, row_size next.value next.fits)),
)

pub returns-then-not-is_row : goal.returns-then-not-is_row
returns-then-not-is_row g c = (
  λ e. absurd cc,
  λ a.
      let h = c.loop-index.invariant in
      let next = next_row c.args.bytes.now c.loop-index.rest.now h.0 a.rows h.1 h.3 a.fits a.spelled (omega (arith, a.size, h.2, c.loop-index-test.true)) in
      let front : c.in-Some.row.now ≡ row_bytes next.value = c.in-Some.ensures.cases.0 ∙ ap (λ (b : List ℕ). take 64 b) next.there ∙ take_at (row_bytes next.value) next.rest 64 (row_size next.value next.fits) in
      let one : c.is_row.result ≡ true = c.is_row.ensures.only next.value next.fits front in
      absurd cc,
)

pub returns-then-row-ne0 : goal.returns-then-row-ne0
returns-then-row-ne0 g c = (
  λ e. absurd cc,
  λ a.
      let h = c.loop-index.invariant in
      let next = next_row c.args.bytes.now c.loop-index.rest.now h.0 a.rows h.1 h.3 a.fits a.spelled (omega (arith, a.size, h.2, c.loop-index-test.true)) in
      let front : c.in-Some.row.now ≡ row_bytes next.value = c.in-Some.ensures.cases.0 ∙ ap (λ (b : List ℕ). take 64 b) next.there ∙ take_at (row_bytes next.value) next.rest 64 (row_size next.value next.fits) in
      let none : next.value ≡ None = sym (next.at None) ∙ a.absent (length h.0) (omega (arith, h.2, c.if-present-index.true)) in
      absurd (c.if-row-ne0.true (absent_begins c.in-Some.row.now next.value front none)),
)

pub loop-index-preserved : goal.loop-index-preserved
loop-index-preserved g c =
    let h = c.loop-index.invariant in
    let p = c.is_row.ensures.found c.if-not-is_row.false in (
      h.0 ++ p.row ∷ [],
      all_more RowFits h.0 p.row h.1 p.fits,
      omega (arith, length-append h.0 (p.row ∷ []), h.2),
      rows_more c.args.bytes.now c.loop-index.rest.now c.in-Some.row.now c.in-Some.behind.now h.0 p.row h.3 c.in-Some.ensures.cases.0 c.in-Some.ensures.cases.1 p.spelled,
      absent_more h.0 p.row c.args.present h.4 (λ le. elim c.else-present-index.branch [
        | else-present-index-via-then-present-index+else-row-ne0 w ↦ absent_row c.in-Some.row.now p.row p.spelled w.if-row-ne0.false
        | else-present-index-via-else-present-index w ↦ absurd (omega (arith, le, h.2, w.if-present-index.false))
      ]),
    )

pub returns : goal.returns
returns g c =
    let h = c.loop-index.invariant in (
      λ e.
          let none : length c.loop-index.rest.now ≡ 0 = grind (arith, nat_tests) in
          record {
            rows = h.0;
            size = omega (arith, h.2);
            fits = h.1;
            spelled = h.3 ∙ ap (λ (b : List ℕ). flat_map row_bytes h.0 ++ b) (empty_by_length c.loop-index.rest.now none) ∙ append-nil (flat_map row_bytes h.0);
            absent = h.4;
          },
      λ a.
          let few : (many g.row.N g.row.N row_form).Fits h.0 = record { size = omega (arith, h.2); few = omega arith; each = h.1 } in
          let all : (many g.row.N g.row.N row_form).Fits a.rows = record { size = a.size; few = omega arith; each = a.fits } in
          let apart = told (many g.row.N g.row.N row_form) (many_is_form g.row.N g.row.N row_form row_is_form) h.0 a.rows c.loop-index.rest.now [] few all (sym h.3 ∙ a.spelled ∙ sym (append-nil (flat_map row_bytes a.rows))) in
          c.is_empty.ensures ∙ ap (λ (b : List ℕ). eqb (length b) 0) apart.1,
    )
