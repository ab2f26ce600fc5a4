use Rattle.rep_service.proofs.Telling.{refuses_by, ends_by_writer}
use Rattle.rep_service.proofs.commands.refuse.Goals as goal

pub returns-in_default : goal.returns-in_default
returns-in_default g c = record {
  refuses = refuses_by c.args.refusal (g.W.Sink.contents c.args.writer.now) (g.W.Sink.contents c.write_refused.new.writer) c.write_refused.result c.in_default.not-DiskFault c.in_default.not-Stopped c.write_refused.ensures.told c.write_refused.ensures.refused;
  notes = c.write_refused.ensures.notes;
  ends = ends_by_writer c.write_refused.result c.write_refused.ensures.refused;
}
