use Rattle.std.proofs.Common.{rules}
use Rattle.rep_layout.proofs.window_reader.Standing.takes.Goals as goal

pub returns-then-is_ascending : goal.returns-then-is_ascending
returns-then-is_ascending c = search rules
