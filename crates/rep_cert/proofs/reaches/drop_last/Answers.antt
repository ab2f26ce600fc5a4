use Rattle.std.proofs.Common.{rules}
use Rattle.rep_cert.proofs.reaches.drop_last.Goals as goal

pub returns : goal.returns
returns c = search rules
