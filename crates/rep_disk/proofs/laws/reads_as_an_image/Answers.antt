use Rattle.rep_disk.proofs.Images.{seen_is_image}
use Rattle.rep_disk.proofs.laws.reads_as_an_image.Goals as goal

pub returns-clause-seen : goal.returns-clause-seen
returns-clause-seen g c honest = seen_is_image (g.D.Disk.history c.args.disk.now)
