use Rattle.std.proofs.Common.{rules}
use Rattle.rep_record.proofs.verdict_line.write_verdict.Goals as goal

pub returns-clause-ok : goal.returns-clause-ok
returns-clause-ok g c = search rules
