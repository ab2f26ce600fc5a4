use Rattle.std.proofs.Common.{◌+◌, ◌*◌}
use Rattle.uses_ordered.proofs.passing.+fn-pass_by-join+arg2+fn-pass_by-join+arg3+pass_by.Given as goal

abbrev pub decreases-join+arg2 : goal.decreases-join+arg2
decreases-join+arg2 g l = 2 * l.rest + 1

abbrev pub decreases-join+arg3 : goal.decreases-join+arg3
decreases-join+arg3 g l = 2 * l.half + 1

abbrev pub decreases-pass_by : goal.decreases-pass_by
decreases-pass_by g l = 2 * l.threads
