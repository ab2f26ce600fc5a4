use Rattle.std.proofs.Common.{rules}
use Rattle.rep_transfer.proofs.have.Have.write_bytes.Goals as goal

pub returns-clause-some : goal.returns-clause-some
returns-clause-some c = search rules
