use Rattle.std.proofs.Common.{rules}
use Rattle.rep_cert.proofs.writers.later.Goals as goal

pub returns : goal.returns
returns c = search rules
