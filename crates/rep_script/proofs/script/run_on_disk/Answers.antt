use Rattle.rep_script.specs.Scripts.{IsOpening}
use Rattle.rep_script.proofs.Scripting.{ends_on_disk, refused_on_disk}
use Rattle.rep_script.proofs.script.run_on_disk.Goals as goal

pub returns-in-Ok-clause-ends : goal.returns-in-Ok-clause-ends
returns-in-Ok-clause-ends g c =
    let opening : IsOpening g.D.Disk c.args.disk c.open.result =
    record { call = c.open.ensures.call; small = c.open.ensures.small; unwritten = c.open.ensures.unwritten; begins = c.open.ensures.begins; opens = c.open.ensures.opens; refused = c.open.ensures.refused } in
    ends_on_disk g.D.Disk (g.R.Source.remaining c.args.reader.now) c.args.disk c.into_disk.result c.open.result c.in-Ok.replica
    c.run_text-outcome.new.replica c.run_text-outcome.result opening c.in-Ok.is c.run_text-outcome.ensures.ends c.into_disk.ensures

pub returns-in-Err-clause-ends : goal.returns-in-Err-clause-ends
returns-in-Err-clause-ends g c =
    let opening : IsOpening g.D.Disk c.args.disk c.open.result =
    record { call = c.open.ensures.call; small = c.open.ensures.small; unwritten = c.open.ensures.unwritten; begins = c.open.ensures.begins; opens = c.open.ensures.opens; refused = c.open.ensures.refused } in
    refused_on_disk g.D.Disk (g.R.Source.remaining c.args.reader.now) c.args.disk c.in-Err.disk c.open.result c.in-Err.refusal
    opening c.in-Err.is
