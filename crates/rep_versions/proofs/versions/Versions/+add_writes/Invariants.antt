use Rattle.std.proofs.Common.{length}
use Rattle.rep_versions.proofs.versions.Versions.+add_writes.Given as goal

abbrev pub decreases-add_writes : goal.decreases-add_writes
decreases-add_writes l = length l.writes.now
