use Rattle.std.proofs.Common.{Err, ap, append-nil}
use Rattle.std.specs.List.{flat_map}
use Rattle.std.proofs.lemmas.Result.{err_from_is_err_and}
use Rattle.std.proofs.lemmas.List.Concat.{flat_map-append}
use Rattle.rep_forms.specs.Entries.{EntryFits, entry_bytes}
use Rattle.rep_layout.specs.Windows.{Window}
use Rattle.rep_catchup.proofs.DonateReads.{notes_more, notes_behind}
use Rattle.rep_catchup.proofs.DonateWrites.{writing_more, writing_cut}
use Rattle.rep_catchup.proofs.donor.write_entries.Goals as goal

pub loop-entry-preserved : goal.loop-entry-preserved
loop-entry-preserved g c =
    let entry = c.in-Some.entry in
    record {
      writing = writing_more EntryFits (flat_map entry_bytes) (flat_map-append entry_bytes) c.args.window.kept.entries c.loop-entry.window.kept.entries c.next_entry.new.self.kept.entries entry (entry_bytes entry)
          (g.W.Sink.contents c.args.writer.now) (g.W.Sink.contents c.loop-entry.writer) (g.W.Sink.contents c.write_entry.new.writer) (append-nil (entry_bytes entry)) c.loop-entry.invariant.writing
          (ap (λ (w : Window). w.kept.entries) c.in-Some.ensures) c.write_entry.ensures.fits c.in_ok-write_entry.ensures.written.done;
      noted = notes_more (g.W.Sink.failed c.args.writer.now) (g.W.Sink.failed c.loop-entry.writer) (g.W.Sink.failed c.write_entry.new.writer) tt c.loop-entry.invariant.noted c.in_ok-write_entry.ensures.notes;
    }

pub returns-in_err-write_entry-clause-written : goal.returns-in_err-write_entry-clause-written
returns-in_err-write_entry-clause-written g c =
    let entry = c.in-Some.entry in
    let p = err_from_is_err_and c.from_residual.result c.from_residual.ensures.1 in
    rw (p.1, p.2) (writing_cut EntryFits (flat_map entry_bytes) (flat_map-append entry_bytes) c.args.window.kept.entries c.loop-entry.window.kept.entries c.next_entry.new.self.kept.entries entry (entry_bytes entry)
    (g.W.Sink.contents c.args.writer.now) (g.W.Sink.contents c.loop-entry.writer) (g.W.Sink.contents c.write_entry.new.writer) c.in_err-write_entry.field-0.0 (append-nil (entry_bytes entry)) c.loop-entry.invariant.writing
    (ap (λ (w : Window). w.kept.entries) c.in-Some.ensures) c.in_err-write_entry.ensures.written)

pub returns-in_err-write_entry-clause-notes : goal.returns-in_err-write_entry-clause-notes
returns-in_err-write_entry-clause-notes g c =
    let p = err_from_is_err_and c.from_residual.result c.from_residual.ensures.1 in
    rw (p.1, p.2) (notes_behind (g.W.Sink.failed c.args.writer.now) (g.W.Sink.failed c.loop-entry.writer) (g.W.Sink.failed c.write_entry.new.writer) (Err c.in_err-write_entry.field-0.0) c.loop-entry.invariant.noted c.in_err-write_entry.ensures.notes)
