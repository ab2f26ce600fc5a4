use Rattle.std.proofs.Common.{rules}
use Rattle.rep_record.proofs.room.Room.is_next.Goals as goal

pub returns-then-judged-self : goal.returns-then-judged-self
returns-then-judged-self c = search rules
