use Rattle.std.proofs.Common.{◌≡◌, Ok, Err, length, refl, subst}
use Rattle.std.proofs.lemmas.Result.{err_from_is_err_and}
use Rattle.rep_types.specs.Settings.{pages_of}
use Rattle.rep_layout.specs.declared.super_body.SuperBody.{SuperBody}
use Rattle.rep_replica.specs.Replicas.{Replica}
use Rattle.rep_catchup.specs.Donating.{KnowsPages, KnowsSnapshot, held_below}
use Rattle.rep_catchup.proofs.DonateReads.{leaves_cut, leaves_noted, leaves_then, still_holds, same_of}
use Rattle.rep_catchup.proofs.Donated.{cut_in_window, cut_in_count, writes_snapshot, knows_snapshot, pages_before}
use Rattle.rep_catchup.proofs.donor.write_snapshot.Goals as goal

pub returns-clause-leaves : goal.returns-clause-leaves
returns-clause-leaves g c =
    let old = c.args.replica.now in
    let now = c.write_window.new.replica in
    let left = c.in_ok-write_window.ensures.leaves in
    let counted = leaves_then g.D.Disk old now now (g.W.Sink.failed c.args.writer.now) (g.W.Sink.failed c.write_window.new.writer) (g.W.Sink.failed c.write_count.new.writer) c.in_ok-write_window.field-0 (Ok tt) left
    (leaves_noted g.D.Disk now _ _ tt c.in_ok-write_count.ensures.notes left.runs) in
    leaves_then g.D.Disk old now c.write_pages.new.replica _ _ _ tt c.write_pages.result counted c.write_pages.ensures.leaves

pub returns-in_err-write_window-clause-writes : goal.returns-in_err-write_window-clause-writes
returns-in_err-write_window-clause-writes g c =
    let p = err_from_is_err_and c.from_residual.result c.from_residual.ensures.1 in
    let (v, stands, front) = c.in_err-write_window.ensures.writes.cut in
    rw (p.1, p.2) (record { done = tt; cut = cut_in_window c.args.replica.now.engine.checkpoint.base v stands (g.W.Sink.contents c.args.writer.now) (g.W.Sink.contents c.write_window.new.writer) front })

pub returns-in_err-write_count-clause-writes : goal.returns-in_err-write_count-clause-writes
returns-in_err-write_count-clause-writes g c =
    let p = err_from_is_err_and c.from_residual-in_err-write_count.result c.from_residual-in_err-write_count.ensures.1 in
    let old = c.args.replica.now in
    let b = old.engine.checkpoint.base in
    let same : c.write_window.new.replica.engine.checkpoint.base ≡ b = same_of g.D.Disk (λ (r : Replica g.row.D.Denot). r.engine.checkpoint.base) old c.write_window.new.replica c.in_ok-write_window.ensures.leaves.reads refl in
    let count : c.count_pages-count.result ≡ length (held_below b (pages_of b.params.rows)) = subst (λ (s : SuperBody). c.count_pages-count.result ≡ length (held_below s (pages_of s.params.rows))) same c.count_pages-count.ensures in
    let (v, stands, known, written) = c.in_ok-write_window.ensures.writes.done in
    let a = g.W.Sink.contents c.args.writer.now in
    rw (p.1, p.2) (record {
      done = tt;
      cut = cut_in_count b v stands c.count_pages-count.result count a (g.W.Sink.contents c.write_window.new.writer) (g.W.Sink.contents c.write_count.new.writer) a written c.in_err-write_count.field-0.0 c.in_err-write_count.ensures.written;
    })

pub returns-clause-writes : goal.returns-clause-writes
returns-clause-writes g c =
    let old = c.args.replica.now in
    let now = c.write_window.new.replica in
    let b = old.engine.checkpoint.base in
    let left = c.in_ok-write_window.ensures.leaves in
    let same : now.engine.checkpoint.base ≡ b = same_of g.D.Disk (λ (r : Replica g.row.D.Denot). r.engine.checkpoint.base) old now left.reads refl in
    let count : c.count_pages-count.result ≡ length (held_below b (pages_of b.params.rows)) = subst (λ (s : SuperBody). c.count_pages-count.result ≡ length (held_below s (pages_of s.params.rows))) same c.count_pages-count.ensures in
    let (v, stands, known, written) = c.in_ok-write_window.ensures.writes.done in
    let pages = pages_before g.D.Disk old now (g.W.Sink.contents c.write_count.new.writer) (g.W.Sink.contents c.write_pages.new.writer) c.write_pages.result left.reads
    (λ n h. still_holds g.D.Disk old now _ _ c.in_ok-write_window.field-0 n left h) c.write_pages.ensures.writes in
    writes_snapshot b v stands c.count_pages-count.result count (g.W.Sink.contents c.args.writer.now) (g.W.Sink.contents c.write_window.new.writer) (g.W.Sink.contents c.write_count.new.writer) (g.W.Sink.contents c.write_pages.new.writer) written
    (KnowsPages g.D.Disk old (pages_of b.params.rows)) (KnowsSnapshot g.D.Disk old) c.write_pages.result
    (λ xs are knows. knows_snapshot g.D.Disk c.row_places_are_told.ensures old c.requires v xs stands known knows) c.in_ok-write_count.ensures.written.done pages

pub returns-in_err-write_count-clause-leaves : goal.returns-in_err-write_count-clause-leaves
returns-in_err-write_count-clause-leaves g c =
    let p = err_from_is_err_and c.from_residual-in_err-write_count.result c.from_residual-in_err-write_count.ensures.1 in
    let e = c.in_err-write_count.field-0.0 in
    let now = c.write_window.new.replica in
    rw (p.1, p.2) (leaves_then g.D.Disk c.args.replica.now now now _ _ _ c.in_ok-write_window.field-0 (Err e) c.in_ok-write_window.ensures.leaves
    (leaves_cut g.D.Disk now _ _ e c.in_err-write_count.ensures.written.refused c.in_err-write_count.ensures.notes))
