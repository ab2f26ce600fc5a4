use Rattle.std.proofs.Common.{rules}
use Rattle.rep_disk.proofs.fuse.Fuse.after.Goals as goal

pub returns : goal.returns
returns c = search rules
