use Rattle.std.proofs.Common.{◌≡◌, ℕ, Ok, Err, subst, arith}
use Rattle.std.proofs.lemmas.Result.{err_from_is_err_and}
use Rattle.rep_types.specs.Settings.{pages_of}
use Rattle.rep_catchup.proofs.DonateReads.{leaves_all, leaves_then, still_holds}
use Rattle.rep_catchup.proofs.DonatePages.{WrotePages, page_before, pages_cut, wrote_no_pages, wrote_more_pages}
use Rattle.rep_catchup.proofs.donor.write_pages.Goals as goal

pub loop-number-init : goal.loop-number-init
loop-number-init g c = record {
  leaves = leaves_all g.D.Disk c.args.replica.now _ tt c.requires;
  written = wrote_no_pages g.D.Disk c.args.replica.now (g.W.Sink.contents c.args.writer.now);
}

pub returns-in_err-write_base_page-clause-leaves : goal.returns-in_err-write_base_page-clause-leaves
returns-in_err-write_base_page-clause-leaves g c =
    let p = err_from_is_err_and c.from_residual.result c.from_residual.ensures.1 in
    rw (p.1, p.2) (leaves_then g.D.Disk c.args.replica.now c.loop-number.replica c.write_base_page.new.replica _ _ _ tt (Err c.in_err-write_base_page.field-0.0)
    c.loop-number.invariant.leaves c.in_err-write_base_page.ensures.leaves)

pub loop-number-preserved : goal.loop-number-preserved
loop-number-preserved g c =
    let old = c.args.replica.now in
    let page = (page_before g.D.Disk old c.loop-number.replica c.loop-number.number (g.W.Sink.contents c.loop-number.writer) (g.W.Sink.contents c.write_base_page.new.writer) (Ok tt) c.loop-number.invariant.leaves.reads
    (λ n h. still_holds g.D.Disk old c.loop-number.replica _ _ tt n c.loop-number.invariant.leaves h) c.in_ok-write_base_page.ensures.writes).done in
    record {
      leaves = leaves_then g.D.Disk old c.loop-number.replica c.write_base_page.new.replica _ _ _ tt (Ok tt) c.loop-number.invariant.leaves c.in_ok-write_base_page.ensures.leaves;
      written = wrote_more_pages g.D.Disk old c.loop-number.number (g.W.Sink.contents c.args.writer.now) (g.W.Sink.contents c.loop-number.writer) (g.W.Sink.contents c.write_base_page.new.writer) page.0 c.loop-number.invariant.written page.1 page.2 page.3;
    }

pub returns-in_err-write_base_page-clause-writes : goal.returns-in_err-write_base_page-clause-writes
returns-in_err-write_base_page-clause-writes g c =
    let p = err_from_is_err_and c.from_residual.result c.from_residual.ensures.1 in
    let old = c.args.replica.now in
    let page = (page_before g.D.Disk old c.loop-number.replica c.loop-number.number (g.W.Sink.contents c.loop-number.writer) (g.W.Sink.contents c.write_base_page.new.writer) (Err c.in_err-write_base_page.field-0.0) c.loop-number.invariant.leaves.reads
    (λ n h. still_holds g.D.Disk old c.loop-number.replica _ _ tt n c.loop-number.invariant.leaves h) c.in_err-write_base_page.ensures.writes).cut in
    let most = c.page_count-number-end.ensures in
    rw (p.1, p.2) (record {
      done = tt;
      cut = pages_cut old.engine.checkpoint.base c.loop-number.number (pages_of old.engine.checkpoint.base.params.rows) c.loop-number.invariant.written.pages page.0 (g.W.Sink.contents c.args.writer.now) (g.W.Sink.contents c.loop-number.writer) (g.W.Sink.contents c.write_base_page.new.writer)
          (omega (arith, most, c.loop-number-test.true)) (omega (arith, most)) c.loop-number.invariant.written.are_pages page.1 c.loop-number.invariant.written.written page.2;
    })

pub returns-clause-writes : goal.returns-clause-writes
returns-clause-writes g c =
    let old = c.args.replica.now in
    let all : c.loop-number.number ≡ pages_of old.engine.checkpoint.base.params.rows = omega (arith, c.page_count-number-end.ensures, c.loop-number-test.false, c.loop-number.auto.number-end) in
    let w = subst (λ (k : ℕ). WrotePages g.D.Disk old k (g.W.Sink.contents c.args.writer.now) (g.W.Sink.contents c.loop-number.writer)) all c.loop-number.invariant.written in
    record { done = (w.pages, w.are_pages, w.known, w.written); cut = tt }
