use Rattle.std.proofs.Common.{◌≡◌, ◌<◌, ◌≤◌, None, Ok, ap, subst, ◌∙◌, refl, inr, rules, arith}
use Rattle.std.proofs.lemmas.Result.{err_from_is_err_and}
use Rattle.rep_replica.specs.Coming.{IsNewPage}
use Rattle.rep_transfer.specs.Pieces.{PageFits, page_bytes}
use Rattle.rep_catchup.proofs.JoinTaking.{consumed, took_piece, found_fits, none_found}
use Rattle.rep_catchup.proofs.JoinBringing.{came_none, came_at, still_runs, pages_stay, pages_failed, no_page_stands, no_such_page}
use Rattle.rep_catchup.proofs.JoinTelling.{put_same, told_of_malformed}
use Rattle.rep_catchup.proofs.snapshot.take_pages.Goals as goal
use Rattle.rep_catchup.proofs.snapshot.take_pages.Goals.{then-number-least-via-then-number-least, then-number-least-via-else-number-least+then-not-takes}

pub loop-index-init : goal.loop-index-init
loop-index-init g c = record {
  came = came_none g.D.Disk c.args.installation.now c.args.transfer.now (g.R.Source.remaining c.args.reader.now) c.requires.running c.requires.none;
  noted = refl;
  same = refl;
}

pub loop-index-preserved : goal.loop-index-preserved
loop-index-preserved g c =
    let now = c.loop-index.installation in
    let before = g.R.Source.remaining c.loop-index.reader in
    let left = g.R.Source.remaining c.next.new.reader in
    let page = c.in-Some.page in
    let is = c.in_ok-page.was ∙ ap Ok c.in-Some.is in
    let same : page.number ≡ c.from-number.result = search rules in
    let is_new : IsNewPage now.engine.checkpoint.base now.coming.next c.from-number.result page.rows = search rules in
    let came = came_at g.D.Disk c.args.installation.now now c.put_page.new.self c.loop-index._index c.loop-index.least c.args.transfer.now c.loop-index.transfer c.next.new.self (g.R.Source.remaining c.args.reader.now) before left page
    c.loop-index.invariant.came c.from-number.result same (found_fits PageFits page c.next.result is c.next.ensures.fits) (took_piece PageFits page_bytes c.loop-index.transfer c.next.new.self before left page c.next.result is c.next.ensures.known c.next.ensures.taken)
    c.if-number-least.false is_new
    (still_runs c.put_page.new.self.engine.halted now.engine.log.phase c.put_page.result c.in_ok-put_page.field-0 c.in_ok-put_page.was (c.put_page.ensures.running c.loop-index.invariant.came.takes.running).0)
    c.put_page.ensures.rest c.in_ok-put_page.ensures.done (λ n y h. c.in_ok-put_page.ensures.holds n y h) (λ n y h. c.put_page.ensures.leaves n y h) in
    record { came = came; noted = c.next.ensures.notes.fine (search rules) ∙ c.loop-index.invariant.noted; same = put_same c.put_page.result c.in_ok-put_page.field-0 c.in_ok-put_page.was c.put_page.ensures.call.no_cause ∙ c.loop-index.invariant.same }

-- ---- where no more comes

pub returns-in_err-page-clause-kept : goal.returns-in_err-page-clause-kept
returns-in_err-page-clause-kept g c = λ n y h.
    let p = err_from_is_err_and c.from_residual.result c.from_residual.ensures.1 in
    rw p.1 (pages_stay g.D.Disk c.args.installation.now c.loop-index.installation c.loop-index._index c.loop-index.least c.args.transfer.now c.loop-index.transfer (g.R.Source.remaining c.args.reader.now)
    (g.R.Source.remaining c.loop-index.reader) c.loop-index.invariant.came n y h)

pub returns-in_default-clause-kept : goal.returns-in_default-clause-kept
returns-in_default-clause-kept g c = λ n y h.
    pages_stay g.D.Disk c.args.installation.now c.loop-index.installation c.loop-index._index c.loop-index.least c.args.transfer.now c.loop-index.transfer (g.R.Source.remaining c.args.reader.now)
    (g.R.Source.remaining c.loop-index.reader) c.loop-index.invariant.came n y h

pub returns-in_default-clause-refused : goal.returns-in_default-clause-refused
returns-in_default-clause-refused g c =
    let before = g.R.Source.remaining c.loop-index.reader in
    let none : c.in_ok-page.field-0 ≡ None = search rules in
    inr (inr (
      refl,
      no_page_stands g.D.Disk c.args.installation.now c.loop-index.installation c.loop-index._index c.loop-index.least c.args.transfer.now c.loop-index.transfer (g.R.Source.remaining c.args.reader.now) before
          c.loop-index.invariant.came c.args.count c.loop-index-test.true (none_found PageFits page_bytes before (g.R.Source.remaining c.next.new.reader) c.in_ok-page.field-0 c.next.result c.in_ok-page.was none c.next.ensures.known),
    ))

pub returns-then-number-least-clause-kept : goal.returns-then-number-least-clause-kept
returns-then-number-least-clause-kept g c = λ n y h.
    pages_stay g.D.Disk c.args.installation.now c.loop-index.installation c.loop-index._index c.loop-index.least c.args.transfer.now c.loop-index.transfer (g.R.Source.remaining c.args.reader.now)
    (g.R.Source.remaining c.loop-index.reader) c.loop-index.invariant.came n y h

pub returns-then-number-least-clause-refused : goal.returns-then-number-least-clause-refused
returns-then-number-least-clause-refused g c =
    let now = c.loop-index.installation in
    let before = g.R.Source.remaining c.loop-index.reader in
    let page = c.in-Some.page in
    let is = c.in_ok-page.was ∙ ap Ok c.in-Some.is in
    let same : page.number ≡ c.from-number.result = search rules in
    let never : c.loop-index.least ≤ page.number → IsNewPage now.engine.checkpoint.base now.coming.next page.number page.rows → ⊥ =
    elim c.then-number-least.branch [
      | then-number-least-via-then-number-least w ↦ λ above new. (let low : c.from-number.result < c.loop-index.least = search rules in omega (arith, above, same, low))
      | then-number-least-via-else-number-least+then-not-takes w ↦ λ above new.
          (let other : IsNewPage now.engine.checkpoint.base now.coming.next c.from-number.result page.rows → ⊥ = search rules in other (subst (λ k. IsNewPage now.engine.checkpoint.base now.coming.next k page.rows) same new))
    ] in
    inr (inr (
      refl,
      no_such_page g.D.Disk c.args.installation.now now now c.loop-index._index c.loop-index.least c.args.transfer.now c.loop-index.transfer c.next.new.self (g.R.Source.remaining c.args.reader.now) before
          (g.R.Source.remaining c.next.new.reader) page c.loop-index.invariant.came c.args.count c.loop-index-test.true (found_fits PageFits page c.next.result is c.next.ensures.fits) (consumed PageFits page_bytes before (g.R.Source.remaining c.next.new.reader) page c.next.result is c.next.ensures.known) never,
    ))

pub returns-in_err-put_page-clause-kept : goal.returns-in_err-put_page-clause-kept
returns-in_err-put_page-clause-kept g c = λ n y h.
    let p = err_from_is_err_and c.from_residual-in_err-put_page.result c.from_residual-in_err-put_page.ensures.1 in
    let fault = (c.in_err-put_page.ensures.running c.loop-index.invariant.came.takes.running).1 in
    rw p.1 (pages_failed g.D.Disk c.args.installation.now c.loop-index.installation c.put_page.new.self c.loop-index._index c.loop-index.least c.args.transfer.now c.loop-index.transfer c.next.new.self
    (g.R.Source.remaining c.args.reader.now) (g.R.Source.remaining c.loop-index.reader) (g.R.Source.remaining c.next.new.reader) c.in-Some.page c.loop-index.invariant.came (λ m z both. c.in_err-put_page.ensures.halts m z both fault) (λ m z both. c.put_page.ensures.leaves m z both) n y h)

-- ---- what is told of the device

pub returns-in_default-clause-told : goal.returns-in_default-clause-told
returns-in_default-clause-told g c = told_of_malformed (g.D.Disk.failures c.args.installation.now.engine.disk) (g.D.Disk.failures c.loop-index.installation.engine.disk) c.args.at c.loop-index.invariant.same

pub returns-then-number-least-clause-told : goal.returns-then-number-least-clause-told
returns-then-number-least-clause-told g c = told_of_malformed (g.D.Disk.failures c.args.installation.now.engine.disk) (g.D.Disk.failures c.loop-index.installation.engine.disk) c.args.at c.loop-index.invariant.same
