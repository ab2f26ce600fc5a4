use Rattle.std.proofs.Common.{[], refl}
use Rattle.rep_lines.specs.Feeds.{ahead}
use Rattle.rep_script.specs.Scripts.{IsOpening}
use Rattle.rep_service.proofs.Ending.{ends_on_disk, refused_on_disk}
use Rattle.rep_service.proofs.service.follow_on_disk.Goals as goal

pub returns-in-Ok-clause-ends : goal.returns-in-Ok-clause-ends
returns-in-Ok-clause-ends g c =
    let opening : IsOpening g.D.Disk c.args.disk c.open.result =
    record { call = c.open.ensures.call; small = c.open.ensures.small; unwritten = c.open.ensures.unwritten; begins = c.open.ensures.begins; opens = c.open.ensures.opens; refused = c.open.ensures.refused } in
    ends_on_disk g.D.Disk c.args.disk (ahead [] (g.R.Source.remaining c.args.source.now)) c.into_disk.result c.open.result opening (g.W.Sink.contents c.args.writer.now) (g.W.Sink.contents c.follow-outcome.new.writer) c.in-Ok.replica c.follow-outcome.new.replica c.follow-outcome.result c.in-Ok.is (record { quiet = c.follow-outcome.ensures.quiet; told = c.follow-outcome.ensures.told }) c.follow-outcome.ensures.lives c.into_disk.ensures

pub returns-in-Err-clause-ends : goal.returns-in-Err-clause-ends
returns-in-Err-clause-ends g c =
    let opening : IsOpening g.D.Disk c.args.disk c.open.result =
    record { call = c.open.ensures.call; small = c.open.ensures.small; unwritten = c.open.ensures.unwritten; begins = c.open.ensures.begins; opens = c.open.ensures.opens; refused = c.open.ensures.refused } in
    refused_on_disk g.D.Disk c.args.disk (ahead [] (g.R.Source.remaining c.args.source.now)) c.in-Err.disk c.open.result opening (g.W.Sink.contents c.args.writer.now) (g.W.Sink.contents c.args.writer.now) c.in-Err.refusal c.in-Err.is refl
