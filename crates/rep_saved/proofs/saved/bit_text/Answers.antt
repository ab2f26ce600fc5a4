use Rattle.std.proofs.Common.{rules}
use Rattle.rep_saved.proofs.saved.bit_text.Goals as goal

pub returns-then-yes : goal.returns-then-yes
returns-then-yes c = search rules

pub returns-else-yes : goal.returns-else-yes
returns-else-yes c = search rules
