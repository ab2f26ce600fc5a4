use Rattle.std.proofs.Common.{ℕ, subst, arith}
use Rattle.std.specs.List.{flat_map}
use Rattle.rep_forms.specs.Rows.{row_bytes}
use Rattle.rep_pages.specs.Pages.{BeginsPage, EndWithTheTable}
use Rattle.rep_pages.proofs.Bodies.{begins_of, rows_fit}
use Rattle.rep_pages.proofs.page.Page.read_body.Goals as goal
use Rattle.rep_pages.proofs.page.Page.read_body.Goals.{then-not-push_rows-via-then-not-push_rows, then-not-push_rows-via-else-not-push_rows+then-not-end_with_the_table}

pub returns-in_default-clause-only : goal.returns-in_default-clause-only
returns-in_default-clause-only c = λ page h n p.
    absurd (c.in_default.ensures.only page.position (flat_map row_bytes page.rows) p (subst (λ (k : ℕ). BeginsPage c.args.schema.now k page.position c.args.bytes.now (flat_map row_bytes page.rows)) n (begins_of h)))

pub returns-then-not-push_rows-clause-only : goal.returns-then-not-push_rows-clause-only
returns-then-not-push_rows-clause-only c = λ page h n p.
    let read = c.in-Some.ensures.only page.position (flat_map row_bytes page.rows) p (subst (λ (k : ℕ). BeginsPage c.args.schema.now k page.position c.args.bytes.now (flat_map row_bytes page.rows)) n (begins_of h)) in
    let rows = c.push_rows.ensures.only page.rows (rows_fit h) read.1 in
    absurd (elim c.then-not-push_rows.branch [
      | then-not-push_rows-via-then-not-push_rows w ↦ grind (arith, rows.0)
      | then-not-push_rows-via-else-not-push_rows+then-not-end_with_the_table w ↦
          let past : EndWithTheTable c.args.schema.now c.args.number w.as_slice.result.now = rw (w.as_slice.ensures.value, rows.1, ← n) h.is.past in
          grind (arith, w.end_with_the_table.ensures.1 past)
    ])

pub returns-clause-only : goal.returns-clause-only
returns-clause-only c = λ page h n p.
    let read = c.in-Some.ensures.only page.position (flat_map row_bytes page.rows) p (subst (λ (k : ℕ). BeginsPage c.args.schema.now k page.position c.args.bytes.now (flat_map row_bytes page.rows)) n (begins_of h)) in
    let rows = c.push_rows.ensures.only page.rows (rows_fit h) read.1 in
    grind (arith, read.0, rows.1)
