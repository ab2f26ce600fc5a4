use Rattle.std.proofs.Common.{rules}
use Rattle.rep_record.proofs.item_line.Draft.renew.Goals as goal

pub returns-in-Err : goal.returns-in-Err
returns-in-Err c = search rules
