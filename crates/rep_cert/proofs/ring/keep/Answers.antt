use Rattle.std.proofs.Common.{rules}
use Rattle.rep_cert.proofs.ring.keep.Goals as goal

pub returns-then-is_commit : goal.returns-then-is_commit
returns-then-is_commit c = search rules
