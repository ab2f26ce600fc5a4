use Rattle.std.proofs.Common.{rules}
use Rattle.rep_script.proofs.script.stopped.Goals as goal

pub returns : goal.returns
returns c = search rules
