use Rattle.std.proofs.Common.{rules}
use Rattle.rep_pages.proofs.image.row_after.Goals as goal

pub returns-in-Deleted : goal.returns-in-Deleted
returns-in-Deleted c = search rules

pub returns-in-Found : goal.returns-in-Found
returns-in-Found c = search rules
