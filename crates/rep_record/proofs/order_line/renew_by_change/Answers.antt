use Rattle.std.proofs.Common.{rules}
use Rattle.rep_record.proofs.order_line.renew_by_change.Goals as goal

pub returns : goal.returns
returns c = search rules
