use Rattle.std.proofs.Common.{refl}
use Rattle.rep_service.specs.Lines.{counters_line}
use Rattle.rep_service.specs.Saying.{Counters}
use Rattle.rep_service.specs.Commanding.{AreCountersOf}
use Rattle.rep_service.proofs.Telling.{tells_line, own_told}
use Rattle.rep_service.proofs.commands.answer_counters.Goals as goal

pub returns-clause-tells : goal.returns-clause-tells
returns-clause-tells g c =
    let held = g.W.Sink.contents in
    own_told (AreCountersOf g.D.Disk c.args.replica.now c.args.counts.now) (Counters c.level_of.result c.args.counts.now) _ _ c.write_level.result (c.level_of.result, c.level_of.ensures.level, refl)
    (tells_line (counters_line c.level_of.result c.args.counts.now) (held c.args.writer.now) (held c.write_level.new.writer) c.write_level.result c.write_level.ensures.ok c.write_level.ensures.cut c.write_level.ensures.refused) c.write_level.ensures.refused
