use Rattle.std.proofs.Common.{Ok, Err, subst}
use Rattle.rep_service.specs.Lines.{rows_line}
use Rattle.rep_service.specs.Commanding.{TellsRead}
use Rattle.rep_service.proofs.Telling.{tells_line, tells_rows}
use Rattle.rep_service.proofs.commands.answer_rows.Goals as goal

pub returns-in-Ok-clause-tells : goal.returns-in-Ok-clause-tells
returns-in-Ok-clause-tells g c =
    let held = g.W.Sink.contents in
    let line = tells_line (rows_line c.durable-at.result c.as_slice.result.now) (held c.args.writer.now) (held c.write_rows.new.writer) c.write_rows.result c.write_rows.ensures.ok c.write_rows.ensures.cut c.write_rows.ensures.refused in
    tells_rows g.D.Disk c.args.keys.now c.args.replica.now c.read_rows.new.replica (held c.args.writer.now) (held c.write_rows.new.writer) c.write_rows.result c.durable-at.result c.durable-at.ensures.durable (Ok c.in-Ok.rows.items) c.in-Ok.ensures.reads
    (subst (λ rows. TellsRead c.durable-at.result (Ok rows) (held c.args.writer.now) (held c.write_rows.new.writer) c.write_rows.result) c.as_slice.ensures.value (line, c.write_rows.ensures.refused)) c.in-Ok.ensures.order

pub returns-in-Err-clause-tells : goal.returns-in-Err-clause-tells
returns-in-Err-clause-tells g c =
    let held = g.W.Sink.contents in
    tells_rows g.D.Disk c.args.keys.now c.args.replica.now c.read_rows.new.replica (held c.args.writer.now) (held c.refuse.new.writer) c.refuse.result c.durable-at.result c.durable-at.ensures.durable (Err c.in-Err.refusal) c.in-Err.ensures.reads c.refuse.ensures.refuses (λ n L holds of. tt)
