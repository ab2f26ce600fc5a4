use Rattle.std.proofs.Common.{◌<◌, ◌^◌, None, Ok, Err, refl, arith}
use Rattle.std.proofs.KnownBytes.{Appends-nil}
use Rattle.std.proofs.lemmas.Result.{err_from_is_err_and}
use Rattle.rep_types.proofs.Choices.{neither_some}
use Rattle.rep_catchup.specs.Donating.{KnowsPage, as_seen}
use Rattle.rep_catchup.proofs.DonateReads.{leaves_asked, leaves_passed, leaves_given, leaves_then, leaves_wrote}
use Rattle.rep_catchup.proofs.DonatePages.{page_held, no_page, page_none, page_there, page_writes, slot_free, slot_held}
use Rattle.rep_catchup.proofs.donor.write_base_page.Goals as goal

pub returns-in_err-found-clause-leaves : goal.returns-in_err-found-clause-leaves
returns-in_err-found-clause-leaves g c =
    let p = err_from_is_err_and c.from_residual.result c.from_residual.ensures.1 in
    rw (p.1, p.2) (leaves_passed g.D.Disk c.args.replica.now c.base_page.new.self _ _ c.in_err-found.field-0.0
    (leaves_asked g.D.Disk _ c.args.replica.now c.base_page.new.self (g.W.Sink.failed c.args.writer.now) (Err c.in_err-found.field-0.0) c.in_err-found.ensures.asks c.in_err-found.ensures.asked c.requires c.in_err-found.ensures.holds c.in_err-found.ensures.whole (λ h is. (c.from.result, (c.in_err-found.ensures.spelled h).corrupt is))))

pub returns-in-Some-clause-leaves : goal.returns-in-Some-clause-leaves
returns-in-Some-clause-leaves g c =
    let asked = leaves_asked g.D.Disk _ c.args.replica.now c.base_page.new.self (g.W.Sink.failed c.args.writer.now) (Ok c.in_ok-found.field-0) c.in_ok-found.ensures.asks c.in_ok-found.ensures.asked c.requires c.in_ok-found.ensures.holds c.in_ok-found.ensures.whole (λ h is. (c.from.result, (c.in_ok-found.ensures.spelled h).corrupt is)) in
    leaves_then g.D.Disk c.args.replica.now c.base_page.new.self c.base_page.new.self _ _ _ c.in_ok-found.field-0 c.write_page.result asked
    (leaves_wrote g.D.Disk c.base_page.new.self _ _ _ _ _ c.write_page.result c.write_page.ensures.written c.write_page.ensures.notes asked.runs)

pub returns-in-Some-clause-writes : goal.returns-in-Some-clause-writes
returns-in-Some-clause-writes g c =
    let old = c.args.replica.now in
    let b = old.engine.checkpoint.base in
    let o = c.in_ok-found.field-0 in
    let page = c.in-Some.found in
    let none = c.in_ok-found.ensures.none in
    page_writes b c.args.number (record { number = c.args.number; rows = page.rows }) (KnowsPage g.D.Disk old c.args.number) (g.W.Sink.contents c.args.writer.now) (g.W.Sink.contents c.write_page.new.writer)
    (slot_held b c.args.number c.from.result o page c.in-Some.is c.from.ensures none) c.write_page.ensures.fits
    (record {
      there = λ h. page_there (as_seen g.D.Disk old.engine) b c.args.number c.from.result o page c.in-Some.is c.from.ensures none (c.in_ok-found.ensures.spelled h).given;
      of_node = λ n h. page_held b n.base.content c.args.number c.from.result page o c.in-Some.is c.from.ensures none (c.in_ok-found.ensures.page n h) c.write_page.ensures.fits;
    }) c.write_page.result c.write_page.ensures.written refl

pub returns-in_err-found-clause-writes : goal.returns-in_err-found-clause-writes
returns-in_err-found-clause-writes g c =
    let p = err_from_is_err_and c.from_residual.result c.from_residual.ensures.1 in
    let old = c.args.replica.now in
    let small : c.args.number < 2 ^ 16 = omega arith in
    rw (p.1, p.2) (page_none old.engine.checkpoint.base c.args.number (KnowsPage g.D.Disk old c.args.number) (g.W.Sink.contents c.args.writer.now) c.in_err-found.field-0.0 small)

pub returns-in-None-clause-leaves : goal.returns-in-None-clause-leaves
returns-in-None-clause-leaves g c =
    leaves_given g.D.Disk c.args.replica.now c.base_page.new.self _ _ c.in_ok-found.field-0 tt
    (leaves_asked g.D.Disk _ c.args.replica.now c.base_page.new.self (g.W.Sink.failed c.args.writer.now) (Ok c.in_ok-found.field-0) c.in_ok-found.ensures.asks c.in_ok-found.ensures.asked c.requires c.in_ok-found.ensures.holds c.in_ok-found.ensures.whole (λ h is. (c.from.result, (c.in_ok-found.ensures.spelled h).corrupt is)))

pub returns-in-None-clause-writes : goal.returns-in-None-clause-writes
returns-in-None-clause-writes g c =
    let old = c.args.replica.now in
    let b = old.engine.checkpoint.base in
    let o = c.in_ok-found.field-0 in
    record {
      done = (
        None,
        slot_free b c.args.number c.from.result o c.in-None.is c.from.ensures c.in_ok-found.ensures.none,
        record {
          there = λ h. tt;
          of_node = λ n h. no_page b n.base.content c.args.number c.from.result o c.in-None.is c.from.ensures c.in_ok-found.ensures.none (c.in_ok-found.ensures.absent n h ((neither_some old.stopped old.engine.halted c.requires).1));
        },
        Appends-nil (g.W.Sink.contents c.args.writer.now),
      );
      cut = tt;
    }
