use Rattle.std.proofs.Common.{Err, [], ◌∷◌, ap, refl}
use Rattle.std.proofs.lemmas.Result.{err_from_is_err_and}
use Rattle.rep_record.specs.Records.{IsRecord}
use Rattle.rep_record.specs.Blocks.{Contents}
use Rattle.rep_catchup.proofs.DonateReads.{notes_more, notes_behind}
use Rattle.rep_catchup.proofs.DonateWrites.{writing_more, writing_cut, next_is}
use Rattle.rep_catchup.proofs.DonateTail.{bytes_above, bytes_join}
use Rattle.rep_catchup.proofs.donor.write_block.Goals as goal

pub write_above-requires : goal.write_above-requires
write_above-requires g c =
    next_is IsRecord (bytes_above c.args.position) c.args.block.records c.loop-judged.block.records c.next_record.new.self.records c.in-Some.judged
    (g.W.Sink.contents c.args.writer.now) (g.W.Sink.contents c.loop-judged.writer) c.loop-judged.invariant.writing (ap (λ (b : Contents). b.records) c.in-Some.ensures) c.requires.are_records

pub loop-judged-preserved : goal.loop-judged-preserved
loop-judged-preserved g c =
    let judged = c.in-Some.judged in
    let same = ap (λ (b : Contents). b.records) c.in-Some.ensures in
    record {
      writing = writing_more IsRecord (bytes_above c.args.position) (bytes_join c.args.position) c.args.block.records c.loop-judged.block.records c.next_record.new.self.records judged (bytes_above c.args.position (judged ∷ []))
          (g.W.Sink.contents c.args.writer.now) (g.W.Sink.contents c.loop-judged.writer) (g.W.Sink.contents c.write_above.new.writer) refl c.loop-judged.invariant.writing same
          (next_is IsRecord (bytes_above c.args.position) c.args.block.records c.loop-judged.block.records c.next_record.new.self.records judged
          (g.W.Sink.contents c.args.writer.now) (g.W.Sink.contents c.loop-judged.writer) c.loop-judged.invariant.writing same c.requires.are_records) c.in_ok-write_above.ensures.written.done;
      noted = notes_more (g.W.Sink.failed c.args.writer.now) (g.W.Sink.failed c.loop-judged.writer) (g.W.Sink.failed c.write_above.new.writer) tt c.loop-judged.invariant.noted c.in_ok-write_above.ensures.notes;
    }

pub returns-in_err-write_above-clause-written : goal.returns-in_err-write_above-clause-written
returns-in_err-write_above-clause-written g c =
    let judged = c.in-Some.judged in
    let p = err_from_is_err_and c.from_residual.result c.from_residual.ensures.1 in
    rw (p.1, p.2) (writing_cut IsRecord (bytes_above c.args.position) (bytes_join c.args.position) c.args.block.records c.loop-judged.block.records c.next_record.new.self.records judged (bytes_above c.args.position (judged ∷ []))
    (g.W.Sink.contents c.args.writer.now) (g.W.Sink.contents c.loop-judged.writer) (g.W.Sink.contents c.write_above.new.writer) c.in_err-write_above.field-0.0 refl c.loop-judged.invariant.writing
    (ap (λ (b : Contents). b.records) c.in-Some.ensures) c.in_err-write_above.ensures.written)

pub returns-in_err-write_above-clause-notes : goal.returns-in_err-write_above-clause-notes
returns-in_err-write_above-clause-notes g c =
    let p = err_from_is_err_and c.from_residual.result c.from_residual.ensures.1 in
    rw (p.1, p.2) (notes_behind (g.W.Sink.failed c.args.writer.now) (g.W.Sink.failed c.loop-judged.writer) (g.W.Sink.failed c.write_above.new.writer) (Err c.in_err-write_above.field-0.0) c.loop-judged.invariant.noted c.in_err-write_above.ensures.notes)
