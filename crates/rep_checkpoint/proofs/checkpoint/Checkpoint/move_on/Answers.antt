use Rattle.std.proofs.Common.{rules}
use Rattle.rep_checkpoint.proofs.checkpoint.Checkpoint.move_on.Goals as goal

pub returns-in-Toward-default-SuperOpening-clause-after : goal.returns-in-Toward-default-SuperOpening-clause-after
returns-in-Toward-default-SuperOpening-clause-after c = search rules
