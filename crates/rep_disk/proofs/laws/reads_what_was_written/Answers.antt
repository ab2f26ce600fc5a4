use Rattle.rep_disk.proofs.Images.{read_part}
use Rattle.rep_disk.proofs.laws.reads_what_was_written.Goals as goal

pub returns : goal.returns
returns c = read_part
