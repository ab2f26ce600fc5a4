use Rattle.std.proofs.Common.{rules}
use Rattle.rep_disk.proofs.fault_once.OnceFaults.fails.Goals as goal

pub returns-in-Some-eq0 : goal.returns-in-Some-eq0
returns-in-Some-eq0 c = search rules
