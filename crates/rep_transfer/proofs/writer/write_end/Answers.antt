use Rattle.std.proofs.Common.{rules}
use Rattle.rep_transfer.proofs.writer.write_end.Goals as goal

pub returns : goal.returns
returns c = search rules
