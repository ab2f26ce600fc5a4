use Rattle.std.proofs.Common.{rules}
use Rattle.rep_script.proofs.script_line.read_delivery.Goals as goal

pub returns-clause-value : goal.returns-clause-value
returns-clause-value c = search rules
