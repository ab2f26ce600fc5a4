use Rattle.std.proofs.Common.{◌≡◌, ◌∙◌, sym, ap, ℕ, true, false, Some, subst, arith}
use Rattle.std.specs.List.{flat_map}
use Rattle.rep_forms.specs.Rows.{row_bytes}
use Rattle.rep_pages.specs.declared.page.Page.{Page}
use Rattle.rep_pages.specs.Pages.{IsPageBody, BeginsPage}
use Rattle.rep_pages.specs.Spelled.{page_in}
use Rattle.rep_pages.proofs.Bodies.{begins_of, page_is}
use Rattle.rep_pages.proofs.Counting.{ends_with, absent_behind}
use Rattle.rep_pages.proofs.Spelled.{page_told}
use Rattle.rep_pages.proofs.page.position_in.Goals as goal

pub returns-in_err-position-clause-only : goal.returns-in_err-position-clause-only
returns-in_err-position-clause-only c = λ page h n p.
    absurd (c.in_err-position.ensures.only page.position (flat_map row_bytes page.rows) p (subst (λ (k : ℕ). BeginsPage c.args.schema.now k page.position c.args.bytes.now (flat_map row_bytes page.rows)) n (begins_of h)))

pub returns-then-not-are_rows-clause-only : goal.returns-then-not-are_rows-clause-only
returns-then-not-are_rows-clause-only c = λ page h n p.
    let read = c.in_ok-position.ensures.only page.position (flat_map row_bytes page.rows) p (subst (λ (k : ℕ). BeginsPage c.args.schema.now k page.position c.args.bytes.now (flat_map row_bytes page.rows)) n (begins_of h)) in
    let are = c.are_rows.ensures.1 (record {
      rows = page.rows;
      size = h.is.size;
      fits = h.rows;
      spelled = read.1;
      absent = absent_behind c.args.schema.now c.args.number c.row_count.result page.rows c.row_count.ensures h.is.size (rw (← n) h.is.past);
    }) in
    let never : true ≡ false = sym are ∙ c.if-not-are_rows.true in
    absurd cc

pub returns-clause-found : goal.returns-clause-found
returns-clause-found c =
    let a = c.are_rows.ensures.0 c.if-not-are_rows.false in
    let begins = c.in_ok-position.ensures.found in
    let is = page_is c.args.schema.now c.args.number c.in_ok-position.position c.args.bytes.now c.in_ok-position.body.now a.rows begins.1 (record { size = a.size; few = omega arith; each = a.fits }) a.spelled
    (ends_with c.args.schema.now c.args.number c.row_count.result a.rows c.row_count.ensures a.absent) in
    (begins.0, subst (λ (page : Page). IsPageBody c.args.schema.now page c.args.bytes.now) (sym (page_told is)) is)

pub returns-clause-only : goal.returns-clause-only
returns-clause-only c = λ page h n p.
    let read = c.in_ok-position.ensures.only page.position (flat_map row_bytes page.rows) p (subst (λ (k : ℕ). BeginsPage c.args.schema.now k page.position c.args.bytes.now (flat_map row_bytes page.rows)) n (begins_of h)) in
    (ap (λ (position : ℕ). Some position) read.0, ap (λ (number : ℕ). page_in number page.position c.args.bytes.now) (sym n) ∙ page_told h)
