use Rattle.std.proofs.Common.{rules}
use Rattle.rep_snap.proofs.reader.Reader.front.Goals as goal

pub returns-clause-front : goal.returns-clause-front
returns-clause-front g c = search rules
