use Rattle.std.proofs.Common.{arith}
use Rattle.rep_disk.proofs.Bytes.{put_mid-put_as}
use Rattle.rep_disk.proofs.memory.overwrite.Goals as goal

pub returns : goal.returns
returns c = put_mid-put_as _ _ _ _ _ (omega arith) c.copy_from_slice.ensures.after c.requires
