use Rattle.std.proofs.Common.{rules}
use Rattle.rep_cert.proofs.reaches.raised.Goals as goal

pub returns-clause-raised : goal.returns-clause-raised
returns-clause-raised c = search rules
